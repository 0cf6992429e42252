-- The machine reads the declaration as `declaration_at` does. Assumes nothing.
use Prim.Native.Nat.{ℕ, ◌+◌, ◌-◌, ◌<◌, ◌≤◌}
use mathlib.Core.Path.{◌≡◌, refl, sym, ◌∙◌, ap}
use mathlib.Core.Bool.{Bool, true, false, cond, ◌&&◌, and-false}
use mathlib.Core.List.{List, [], ◌∷◌}
use native.Mathlib.Omega.{arith}
use lib.ListN.{length}
use lib.Dec.{leb}
use borrow.Author.Tests.{lt-ltb, le-leb}
use Rattle.std.proofs.lemmas.Bool.{and_parts, cond_both}
use Rattle.message.specs.Class.{class_of, is_start, is_space}
use Rattle.message.specs.Reading.{◌>>=◌, is_whole, is, byte_at, has, one, ends, word_at, opened_at, closed_at}
use Rattle.message.specs.Reading.Reading.{whole}
use Rattle.message.specs.Markup as markup
use Rattle.message.specs.Markup.{declares, utf8_at, encoding_at, declaration_at}
use Rattle.message.specs.Limits.{Limits}
use Rattle.message.proofs.Laws.{has_lt, has_byte, one_yes, one_no, ends_more, ends_stop, fails_byte}
use Rattle.message.proofs.Bytes.{question_no_start, solid_question, solid_v}
use Rattle.message.proofs.Runs.{ends_fails, byte_is, has_known}
use Rattle.message.proofs.Facts.{whole_is}
use Rattle.message.proofs.Words.{word_first, word_ends}
use Rattle.message.proofs.Automaton.{exact, exactly, first, before, State, ground, opened, expect, declared, version_quote, encoding_quote, versioned, encoding_name, equals, encoding_word, declared_end}
use Rattle.message.proofs.Dues.{due, At}
use Rattle.message.proofs.Going.{Outcome, outcome_then, outcome_as, outcome_one, outcome_expect, outcome_word, at_has, at_ends, stuck_here}
use Rattle.message.proofs.Acting.{acts_at}
use Rattle.message.proofs.GoingQuotes.{Quoting, Opened, going_opened, going_blanks_word}
use Rattle.message.proofs.Ways.{at_within}

module _ (l : Limits) (s : List ℕ) where
  -- ---- up to the version's word

  module _ (here : At l s (ground first) 0) (declaring : declares class_of s ≡ true) where
    abbrev spells : (e : ℕ) × (word_at markup.xml s 0 ≡ whole e)
    spells = whole_is (word_at markup.xml s 0) (and_parts (is_whole (word_at markup.xml s 0)) (has (is_space class_of) s 5) declaring).0

    at_declared : At l s declared 5
    at_declared =
        let a = word_first s 60 (63 ∷ 120 ∷ 109 ∷ 108 ∷ []) 0 spells.0 spells.1 in
        let b = word_first s 63 (120 ∷ 109 ∷ 108 ∷ []) 1 spells.0 a.1 in
        let c = word_first s 120 (109 ∷ 108 ∷ []) 2 spells.0 b.1 in
        let d = word_first s 109 (108 ∷ []) 3 spells.0 c.1 in
        let e = word_first s 108 [] 4 spells.0 d.1 in
        let free : due l s (ground first) 0 ≡ false = rw (
          a.0,
          has_known 63 s 1 b.0 (is 33),
          b.0,
          declaring,
          has_known 63 s 1 b.0 (is_start class_of) ∙ question_no_start,
        ) (and-false (leb l.levels 0 && true)) in
        let free' : due l s (opened first) 1 ≡ false = rw (has_known 63 s 1 b.0 (is_start class_of) ∙ question_no_start) in
        let at_1 : At l s (opened first) 1 = at_has l s (is 60) 0 here a.0 free (rw (has_byte (is 60) s 0 a.0)) in
        let at_2 : At l s (expect (exact 120) (exactly (109 ∷ 108 ∷ [])) declared) 2 =
        at_has l s (is 63) 1 at_1 b.0 free' (rw (ap (is 33) (byte_is 63 s 1 b.0), has_byte (is 63) s 1 b.0)) in
        let at_3 : At l s (expect (exact 109) (exactly (108 ∷ [])) declared) 3 =
        at_has l s (is 120) 2 at_2 c.0 refl (rw (has_byte (is 120) s 2 c.0)) in
        let at_4 : At l s (expect (exact 108) [] declared) 4 = at_has l s (is 109) 3 at_3 d.0 refl (rw (has_byte (is 109) s 3 d.0)) in
        at_has l s (is 108) 4 at_4 e.0 refl (rw (has_byte (is 108) s 4 e.0))

    going_version : Outcome l s (λ e. At l s (equals version_quote) e) (word_at markup.version s (ends (is_space class_of) s 5))
    going_version =
        let space : has (is_space class_of) s 5 ≡ true =
        (and_parts (is_whole (word_at markup.xml s 0)) (has (is_space class_of) s 5) declaring).1 in
        rw (ends_more (is_space class_of) s 5 space)
        (going_blanks_word l s 118 solid_v (101 ∷ 114 ∷ 115 ∷ 105 ∷ 111 ∷ 110 ∷ []) [] (equals version_quote) 6
        (at_has l s (is_space class_of) 5 at_declared space refl (rw (has_byte (is_space class_of) s 5 space))))

  -- ---- quotation marks

  abbrev version_quotes : Quoting l s
  version_quotes = record {
    state = version_quote;
    next = λ q. expect (exact 49) (exact 46 ∷ exact 48 ∷ exact q ∷ []) (versioned false);
    does = λ x. refl;
    more = refl;
    free = λ i. refl;
  }

  abbrev encoding_quotes : Quoting l s
  encoding_quotes = record { state = encoding_quote; next = encoding_name; does = λ x. refl; more = refl; free = λ i. refl }

  -- the quotation mark that opened a value ends it
  going_closed : (from to : ℕ) (k : State) → 0 < from → At l s (expect (exact (byte_at s (from - 1))) [] k) to → from ≤ to
      → Outcome l s (λ e. At l s k e) (closed_at s from to)
  unfolding closed_at
  going_closed from to k some here order =
      rw (lt-ltb 0 from some, le-leb from (length s) (omega (arith, at_within l s to _ here)))
      (outcome_as l s _ _ (one (is (byte_at s (from - 1))) s to) (outcome_expect l s (exact (byte_at s (from - 1))) [] k to here)
      (λ e q h. h.0))

  -- ---- the encoding

  utf8_on : (from to : ℕ) → utf8_at s from ≡ whole to → from ≤ to
  unfolding utf8_at
  utf8_on from to q = go (has (is 117) s from) q
    where
      go : (t : Bool) → cond t (word_at markup.lower_utf8 s from) (word_at markup.upper_utf8 s from) ≡ whole to → from ≤ to
      go true r = omega (arith, word_ends s markup.lower_utf8 from to r)
      go false r = omega (arith, word_ends s markup.upper_utf8 from to r)

  going_utf8 : (q from : ℕ) → At l s (encoding_name q) from → Outcome l s (λ e. At l s (expect (exact q) [] declared_end) e) (utf8_at s from)
  unfolding utf8_at word_at
  going_utf8 q from here =
      cond_both (has (is 117) s from) _ _ (Outcome l s (λ e. At l s (expect (exact q) [] declared_end) e))
      (λ h. outcome_then l s _ _ _ (one (is 117) s from)
      (outcome_one l s (expect (exact 116) (exactly (102 ∷ 45 ∷ 56 ∷ q ∷ [])) declared_end) (is 117) from here refl (λ t. refl)
      (λ t. rw (has_byte (is 117) s from t)) (λ within t. cc))
      (λ e r at-e. outcome_word l s (116 ∷ 102 ∷ 45 ∷ 56 ∷ []) (exact q ∷ []) declared_end e at-e.0))
      (λ h. outcome_then l s _ _ _ (one (is 85) s from)
      (outcome_one l s (expect (exact 84) (exactly (70 ∷ 45 ∷ 56 ∷ q ∷ [])) declared_end) (is 85) from here refl (λ t. refl)
      (λ t. rw (fails_byte (is 117) s from (has_lt (is 85) s from t) h, has_byte (is 85) s from t))
      (λ within t. rw (fails_byte (is 117) s from within h, fails_byte (is 85) s from within t)))
      (λ e r at-e. outcome_word l s (84 ∷ 70 ∷ 45 ∷ 56 ∷ []) (exact q ∷ []) declared_end e at-e.0))

  -- behind the encoding's word
  going_encoded : (named : ℕ) → At l s (equals encoding_quote) named → Outcome l s (λ e. At l s (ground before) e)
      (opened_at class_of s named >>= (λ from. utf8_at s from >>= (λ to. closed_at s from to >>= (λ done. word_at markup.closing s (ends (is_space class_of) s done)))))
  going_encoded named here =
      let acts = acts_at l s (equals encoding_quote) named here refl refl in
      outcome_then l s (Opened l s encoding_quotes named acts) _ _ (opened_at class_of s named) (going_opened l s encoding_quotes named acts)
      (λ from q opened.
      outcome_then l s _ _ _ (utf8_at s from) (going_utf8 (byte_at s (from - 1)) from opened.here) (λ to r at-to.
      outcome_then l s _ _ _ (closed_at s from to) (going_closed from to declared_end opened.some at-to (utf8_on from to r))
      (λ done t at_done.
      going_blanks_word l s 63 solid_question (62 ∷ []) [] (ground before) done at_done)))

  -- ---- behind the version

  module _ (i : ℕ) (here : At l s (versioned false) i) where
    abbrev stop : ℕ
    stop = ends (is_space class_of) s i

    solid : stop < length s → is_space class_of (byte_at s stop) ≡ false
    solid within = fails_byte (is_space class_of) s stop within (ends_fails (is_space class_of) s i)

    spaced : has (is_space class_of) s i ≡ true → At l s (versioned true) stop
    spaced h =
        rw (ends_more (is_space class_of) s i h)
        (at_ends l s (is_space class_of) (λ j t. refl) (λ x t. rw t) (i + 1)
        (at_has l s (is_space class_of) i here h refl (rw (has_byte (is_space class_of) s i h))))

    -- with white space or without
    spaced_or_not : (b : Bool) × At l s (versioned b) stop
    spaced_or_not = go (has (is_space class_of) s i) refl
      where
        go : (t : Bool) → has (is_space class_of) s i ≡ t → (b : Bool) × At l s (versioned b) stop
        go true h = (true, spaced h)
        go false h = (false, rw (ends_stop (is_space class_of) s i h) here)

    going_end : has (is 63) s stop ≡ true → Outcome l s (λ e. At l s (ground before) e) (word_at markup.closing s stop)
    unfolding word_at
    going_end h =
        rw (one_yes (is 63) s stop h)
        (outcome_word l s (62 ∷ []) [] (ground before) (stop + 1)
        (at_has l s (is 63) stop spaced_or_not.1 h refl (rw (solid (has_lt (is 63) s stop h), has_byte (is 63) s stop h))))

    module _ (no_end : has (is 63) s stop ≡ false) where
      going_word : At l s (versioned true) stop → Outcome l s (λ e. At l s (equals encoding_quote) e) (word_at markup.encoding s stop)
      unfolding word_at
      going_word at_stop =
          outcome_then l s _ _ _ (one (is 101) s stop)
          (outcome_one l s encoding_word (is 101) stop at_stop refl (λ t. refl)
          (λ t. let within : stop < length s = has_lt (is 101) s stop t in
          rw (solid within, fails_byte (is 63) s stop within no_end, has_byte (is 101) s stop t))
          (λ within t. rw (solid within, fails_byte (is 63) s stop within no_end, fails_byte (is 101) s stop within t)))
          (λ e q at-e. outcome_word l s (110 ∷ 99 ∷ 111 ∷ 100 ∷ 105 ∷ 110 ∷ 103 ∷ []) [] (equals encoding_quote) e at-e.0)

      going_encoding : Outcome l s (λ e. At l s (ground before) e) (encoding_at class_of s i)
      unfolding encoding_at
      going_encoding = go (has (is_space class_of) s i) refl
        where
          go : (t : Bool) → has (is_space class_of) s i ≡ t → Outcome l s (λ e. At l s (ground before) e) (encoding_at class_of s i)
          go true h =
              rw (one_yes (is_space class_of) s i h)
              (outcome_then l s _ _ _ (word_at markup.encoding s stop) (going_word (spaced h)) (λ e q at-e. going_encoded e at-e))
          go false h =
              let same : stop ≡ i = ends_stop (is_space class_of) s i h in
              rw (one_no (is_space class_of) s i h)
              (stuck_here l s here refl
              (λ within. rw (fails_byte (is_space class_of) s i within h, fails_byte (is 63) s i within (ap (has (is 63) s) (sym same) ∙ no_end))))

  -- ---- the whole

  pub going_declaration : At l s (ground first) 0 → declares class_of s ≡ true
      → Outcome l s (λ e. At l s (ground before) e) (declaration_at class_of s 5)
  unfolding declaration_at
  going_declaration here declaring =
      outcome_then l s _ _ _ (word_at markup.version s (ends (is_space class_of) s 5)) (going_version here declaring) (λ named q at_named.
      let acts = acts_at l s (equals version_quote) named at_named refl refl in
      outcome_then l s (Opened l s version_quotes named acts) _ _ (opened_at class_of s named) (going_opened l s version_quotes named acts)
      (λ from r opened.
      outcome_then l s _ _ _ (word_at markup.one_dot_zero s from)
      (outcome_word l s markup.one_dot_zero (exact (byte_at s (from - 1)) ∷ []) (versioned false) from opened.here) (λ to t at-to.
      outcome_then l s _ _ _ (closed_at s from to)
      (going_closed from to (versioned false) opened.some at-to (omega (arith, word_ends s markup.one_dot_zero from to t)))
      (λ done u at_done.
      cond_both (has (is 63) s (ends (is_space class_of) s done)) _ _ (Outcome l s (λ e. At l s (ground before) e))
      (λ h. going_end done at_done h) (λ h. going_encoding done at_done h)))))
