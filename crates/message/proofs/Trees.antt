-- The readers of elements: what they read whole ends past where it began and within the message. Assumes nothing.
use Prim.Native.Nat.{ℕ, zero, suc, ◌+◌, ◌-◌, ◌<◌, ◌≤◌}
use mathlib.Core.Path.{◌≡◌, refl, sym, subst}
use mathlib.Core.Bool.{Bool, true, false, cond}
use mathlib.Core.List.{List, [], ◌∷◌}
use native.Mathlib.Omega.{arith}
use lib.ListN.{length, get_or}
use lib.Dec.{ltb, eqb}
use borrow.Author.Tests.{ltb-true}
use Rattle.std.proofs.lemmas.Bool.{cond_both}
use Rattle.message.specs.Class.{is_start, is_name, is_space, is_plain}
use Rattle.message.specs.Reading.{Reading, ◌>>=◌, is, byte_at, has, one, ends, blanks, equals_at, opened_at, is_quote}
use Rattle.message.specs.Reading.Reading.{whole, refused}
use Rattle.message.specs.Names.{Named, short_at, part_at, name_at}
use Rattle.message.specs.Text.{beyond_plain_at, beyond_plain_in_at, text_at, value_at}
use Rattle.message.specs.Markup.{bang_at}
use Rattle.message.proofs.Laws.{has_lt, has_out, ends_from, ends_le, ends_out, one_yes, one_no, stopped}
use Rattle.message.proofs.Runs.{start_in_name}
use Rattle.message.proofs.Progress.{Every, every_then, every_on, every_so, Past, past_then, past_whole, past_one, past_word, past_beyond_plain, past_beyond_plain_in, beyond_plain_out}
use Rattle.message.proofs.MarkupLoop.{past_bang}
use Rattle.message.specs.Limits.{Limits}
use Rattle.message.specs.Elements.{part, Element, Start, Quoted, is_known, ends_tag, start_end_at, quoted_at, free_at, too_deep_at, fresh_at, attributes_at, with_name_at, start_at, end_part_at, end_name_at, end_tag_at, content_at, rest_at, element_at}

pub whole_same : {A : Type 0} {x y : A} → whole x ≡ whole y → x ≡ y
whole_same e = cc

-- what was refused was not whole
pub unread : {A B : Type 0} {x : A} {n p : ℕ} → refused n p ≡ whole x → B
unread e = cc

-- what holds of one byte and then another reading
pub one_cases : {B : Type 0} (P : Reading B → Type 0) (test : ℕ → Bool) (s : List ℕ) (at : ℕ) (next : ℕ → Reading B)
    → (has test s at ≡ true → P (next (at + 1))) → P (refused 9 at) → P (one test s at >>= next)
one_cases P test s at next f g = go (has test s at) refl
  where
    go : (t : Bool) → has test s at ≡ t → P (one test s at >>= next)
    go true h = rw (one_yes test s at h) (f h)
    go false h = rw (one_no test s at h) g

-- ---- past the end nothing is read

pub text_out : (class : ℕ → ℕ) (s : List ℕ) (fuel at : ℕ) → length s ≤ at → text_at class fuel s at ≡ refused 9 at
unfolding text_at
text_out class s zero at h = refl
text_out class s (suc fuel) at h =
    rw (ends_out (is_plain class) s at h, has_out (is 60) s at h) (sym (stopped _ (sym (beyond_plain_out s at h class))))

pub free_out : (class : ℕ → ℕ) (s : List ℕ) (fuel at : ℕ) → length s ≤ at → free_at class s fuel at ≡ refused 9 at
unfolding free_at
free_out class s zero at h = refl
free_out class s (suc fuel) at h = rw (text_out class s (length s) at h)

-- where the reading is whole, what was read ends past the place k and within the message
abbrev Behind : List ℕ → ℕ → {A : Type 0} → (A → ℕ) → Reading A → Type 0
Behind s k end = Past end (length s) k

abbrev place : ℕ → ℕ
place e = e

-- a `<` stands at the place, which is not before k
abbrev Stops : List ℕ → ℕ → ℕ → Type 0
Stops s k stop = (k ≤ stop) × (has (is 60) s stop ≡ true)

module _ (class : ℕ → ℕ) (s : List ℕ) (k : ℕ) where
  -- ---- names

  past_part : (most at : ℕ) → k ≤ at → Behind s k place (part_at class most s at)
  unfolding part_at short_at
  past_part most at h =
      one_cases (Behind s k place) (is_start class) s at (λ next. short_at class most s at) (λ t.
      cond_both (ltb most (ends (is_name class) s at - at)) _ _ (Behind s k place) (λ u. tt) (λ u.
      omega (arith, start_in_name class s at t, ends_le (is_name class) s at (omega (arith, has_lt (is_start class) s at t))))) tt

  pub past_name : (most at : ℕ) → k ≤ at → Behind s k (λ n. n.end) (name_at class most s at)
  unfolding name_at
  past_name most at h =
      past_then place (λ n. n.end) (length s) k _ (part_at class most s at) (past_part most at h) (λ first p q.
      cond_both (has (is 58) s first) _ _ (Behind s k (λ n. n.end))
      (λ t. past_then place (λ n. n.end) (length s) k _ (part_at class most s (first + 1)) (past_part most (first + 1) (omega arith)) (λ last p' q'. (p', q')))
      (λ t. (p, q)))

  -- ---- values

  past_opened : (at : ℕ) → k ≤ at → Behind s k place (opened_at class s at)
  unfolding opened_at equals_at
  past_opened at h =
      past_then place place (length s) k _ (equals_at class s at) (
      past_then place place (length s) k _ (one (is 61) s (blanks class s at))
      (past_one s k (is 61) (blanks class s at) (omega (arith, ends_from (is_space class) s at))) (λ next p q.
      omega (arith, p, ends_from (is_space class) s next, ends_le (is_space class) s next q))) (λ mark p q.
      past_one s k is_quote mark (omega arith))

  -- a value stops at a quotation mark, not before where it began
  pub value_stops : (fuel quote at : ℕ) → k ≤ at → Every (λ to. (k ≤ to) × (to < length s)) (value_at class fuel quote s at)
  unfolding value_at
  value_stops zero quote at h = tt
  value_stops (suc fuel) quote at h =
      let stop = ends (is_plain class) s at in
      let on : k ≤ stop = omega (arith, ends_from (is_plain class) s at) in
      cond_both (has (is quote) s stop) _ _ (Every (λ to. (k ≤ to) × (to < length s))) (λ t. (on, has_lt (is quote) s stop t)) (λ t.
      every_then (λ e. (k < e) × (e ≤ length s)) (λ to. (k ≤ to) × (to < length s)) _ (beyond_plain_in_at class s stop) (past_beyond_plain_in s k class stop on) (λ e p.
      value_stops fuel quote e (omega (arith, p.0))))

  -- ---- text and comments

  -- text stops at a `<`
  abbrev AtTag : Reading ℕ → Type 0
  AtTag = Every (Stops s k)

  text_stops : (fuel at : ℕ) → k ≤ at → AtTag (text_at class fuel s at)
  unfolding text_at
  text_stops zero at h = tt
  text_stops (suc fuel) at h =
      let stop = ends (is_plain class) s at in
      let on : k ≤ stop = omega (arith, ends_from (is_plain class) s at) in
      cond_both (has (is 60) s stop) _ _ AtTag (λ t. (on, t)) (λ t.
      every_then (λ e. (k < e) × (e ≤ length s)) (Stops s k) _ (beyond_plain_at class s stop) (past_beyond_plain s k class stop on) (λ e p.
      text_stops fuel e (omega (arith, p.0))))

  free_stops : (fuel at : ℕ) → k ≤ at → AtTag (free_at class s fuel at)
  unfolding free_at
  free_stops zero at h = tt
  free_stops (suc fuel) at h =
      every_then (Stops s k) (Stops s k) _ (text_at class (length s) s at) (text_stops (length s) at h) (λ stop p.
      cond_both (has (is 33) s (stop + 1)) _ _ AtTag
      (λ t. every_then (λ e. (k < e) × (e ≤ length s)) (Stops s k) _ (bang_at class s stop) (past_bang class s k stop p.0)
      (λ e q. free_stops fuel e (omega (arith, q.0))))
      (λ t. cond_both (has (is 63) s (stop + 1)) _ _ AtTag (λ u. tt) (λ u. p)))

-- ---- what is known of a reading that was whole

module _ (class : ℕ → ℕ) (s : List ℕ) where
  pub part_on : (most : ℕ) {at e : ℕ} → part_at class most s at ≡ whole e → (at < e) × (e ≤ length s)
  part_on most {at} q = past_whole place (length s) at q (past_part class s at most at (omega arith))

  pub name_on : (most : ℕ) {at : ℕ} {n : Named} → name_at class most s at ≡ whole n → (at < n.end) × (n.end ≤ length s)
  name_on most {at} q = past_whole (λ n. n.end) (length s) at q (past_name class s at most at (omega arith))

  -- a value begins behind its quotation mark, which is then in the message
  pub opened_on : {at from : ℕ} → opened_at class s at ≡ whole from → (at < from) × (from ≤ length s)
  opened_on {at} q = past_whole (λ e. e) (length s) at q (past_opened class s at at (omega arith))

  abbrev Quoting : ℕ → Quoted → Type 0
  Quoting at v = (at < v.from) × (v.from ≤ v.to) × (v.to < length s)

  quoted_every : (at : ℕ) → Every (Quoting at) (quoted_at class s at)
  unfolding quoted_at
  quoted_every at =
      every_then (λ e. (at < e) × (e ≤ length s)) (Quoting at) _ (opened_at class s at) (past_opened class s at at (omega arith)) (λ begin p.
      every_then (λ to. (begin ≤ to) × (to < length s)) (Quoting at) _ (value_at class (length s) (byte_at s (begin - 1)) s begin)
      (value_stops class s begin (length s) (byte_at s (begin - 1)) begin (omega arith)) (λ stop q.
      (p.0, q.0, q.1)))

  pub quoted_on : {at : ℕ} {v : Quoted} → quoted_at class s at ≡ whole v → (at < v.from) × (v.from ≤ v.to) × (v.to < length s)
  quoted_on {at} q = subst (Every (Quoting at)) q (quoted_every at)

  -- the name of one more attribute: white space stands before it, and it was not one too many
  pub record Fresh (l : Limits) (seen : List (List ℕ)) (at p e : ℕ) : Type 0 where
    pub space : has (is_space class) s at ≡ true
    pub room : length seen < l.attributes
    pub name : Named
    pub named : name_at class l.part s p ≡ whole name
    pub ends : e ≡ name.end

  fresh_every : (l : Limits) (seen : List (List ℕ)) (at p : ℕ) → Every (Fresh l seen at p) (fresh_at class s l seen at p)
  unfolding fresh_at
  fresh_every l seen at p =
      one_cases (Every (Fresh l seen at p)) (is_space class) s at _ (λ space.
      every_on (Fresh l seen at p) _ (one (is_start class) s p) (λ begin q.
      every_then (λ room. length seen < l.attributes) (Fresh l seen at p) _ (cond (ltb (length seen) l.attributes) (whole p) (refused 11 p)) (
      cond_both (ltb (length seen) l.attributes) _ _ (Every (λ room. length seen < l.attributes)) (λ t. ltb-true (length seen) l.attributes t) (λ t. tt)) (λ p' room.
      every_on (Fresh l seen at p) _ (name_at class l.part s p) (λ name named.
      cond_both (is_known (part s p name.end) seen) _ _ (Every (Fresh l seen at p)) (λ t. tt) (λ t.
      record { space = space; room = room; name = name; named = named; ends = refl }))))) tt

  pub fresh_whole : (l : Limits) (seen : List (List ℕ)) (at p e : ℕ) → fresh_at class s l seen at p ≡ whole e → Fresh l seen at p e
  fresh_whole l seen at p e q = subst (Every (Fresh l seen at p)) q (fresh_every l seen at p)

  fresh_past : (l : Limits) (seen : List (List ℕ)) (at : ℕ) {p e : ℕ} → Fresh l seen at p e → (p < e) × (e ≤ length s)
  fresh_past l seen at f = omega (arith, name_on l.part f.named, f.ends)

  pub fresh_on : (l : Limits) (seen : List (List ℕ)) (at : ℕ) {p e : ℕ} → fresh_at class s l seen at p ≡ whole e → (p < e) × (e ≤ length s) × (length seen < l.attributes)
  fresh_on l seen at {p} {e} q = let f = fresh_whole l seen at p e q in let on = fresh_past l seen at f in (on.0, on.1, f.room)

  -- text that is read whole stops at a `<`
  pub text_whole : (at stop : ℕ) → text_at class (length s) s at ≡ whole stop → (at ≤ stop) × (stop < length s)
  text_whole at stop q =
      let x = subst (Every (Stops s at)) q (text_stops class s at (length s) at (omega arith)) in
      (x.0, has_lt (is 60) s stop x.1)

  -- and so do text and comments
  pub free_mark : (at stop : ℕ) → free_at class s (length s) at ≡ whole stop → (at ≤ stop) × (has (is 60) s stop ≡ true)
  free_mark at stop q = subst (Every (Stops s at)) q (free_stops class s at (length s) at (omega arith))

  pub free_whole : (at stop : ℕ) → free_at class s (length s) at ≡ whole stop → (at ≤ stop) × (stop < length s)
  free_whole at stop q = let x = free_mark at stop q in (x.0, has_lt (is 60) s stop x.1)

-- ---- tags

module _ (class : ℕ → ℕ) (s : List ℕ) (k : ℕ) where
  pub past_quoted : (at : ℕ) → k < at → Behind s k (λ v. v.to) (quoted_at class s at)
  past_quoted at h =
      every_so (Quoting class s at) (λ v. (k < v.to) × (v.to ≤ length s)) (λ v q. omega (arith, q.0, q.1, q.2)) (quoted_at class s at) (quoted_every class s at)

  past_start_end : (b : ℕ) (n : Named) (at : ℕ) → k < at → Behind s k (λ st. st.from) (start_end_at s b n at)
  unfolding start_end_at
  past_start_end b n at h =
      cond_both (has (is 47) s at) _ _ (Behind s k (λ st. st.from))
      (λ t. past_then place (λ st. st.from) (length s) k _ (one (is 62) s (at + 1)) (past_one s k (is 62) (at + 1) (omega arith)) (λ i p q. (p, q)))
      (λ t. past_then place (λ st. st.from) (length s) k _ (one (is 62) s at) (past_one s k (is 62) at (omega arith)) (λ i p q. (p, q)))

  module _ (l : Limits) where
    pub past_fresh : (seen : List (List ℕ)) (at p : ℕ) → k < p → Behind s k place (fresh_at class s l seen at p)
    past_fresh seen at p h =
        every_so (Fresh class s l seen at p) (λ e. (k < e) × (e ≤ length s)) (λ e f. omega (arith, fresh_past class s l seen at f)) (fresh_at class s l seen at p)
        (fresh_every class s l seen at p)

    pub past_attributes : (fuel : ℕ) (seen : List (List ℕ)) (at : ℕ) → k < at → Behind s k place (attributes_at class s l fuel seen at)
    unfolding attributes_at
    past_attributes zero seen at h = tt
    past_attributes (suc fuel) seen at h =
        let p = blanks class s at in
        let on : k < p = omega (arith, ends_from (is_space class) s at) in
        cond_both (has ends_tag s p) _ _ (Behind s k place) (λ t. (on, omega (arith, has_lt ends_tag s p t)))
        (λ t. past_then place place (length s) k _ (fresh_at class s l seen at p) (past_fresh seen at p on) (λ e q q'.
        past_then (λ v. v.to) place (length s) k _ (quoted_at class s e) (past_quoted e q)
        (λ v r r'. past_attributes fuel (part s p e ∷ seen) (v.to + 1) (omega arith))))

    pub past_with_name : (b : ℕ) (n : Named) → k < n.end → Behind s k (λ st. st.from) (with_name_at class s l b n)
    unfolding with_name_at
    past_with_name b n h =
        past_then place (λ st. st.from) (length s) k _ (attributes_at class s l (length s) [] n.end) (past_attributes (length s) [] n.end h)
        (λ stop p q. past_start_end b n stop p)

    pub past_start : (at : ℕ) → k ≤ at → Behind s k (λ st. st.from) (start_at class s l at)
    unfolding start_at
    past_start at h =
        past_then place (λ st. st.from) (length s) k _ (one (is 60) s at) (past_one s k (is 60) at h) (λ b p q.
        past_then (λ n. n.end) (λ st. st.from) (length s) k _ (name_at class l.part s b) (past_name class s k l.part b (omega arith))
        (λ n p' q'. past_with_name b n p'))

    past_end_part : (w : List ℕ) (at : ℕ) → k < at → Behind s k place (end_part_at class s l w at)
    unfolding end_part_at
    past_end_part w at h =
        one_cases (Behind s k place) (is (get_or w 0 0)) s at _ (λ t.
        every_on (λ e. (k < e) × (e ≤ length s)) _ (short_at class l.part s at) (λ short q. past_word s k w at h (omega (arith, has_lt (is (get_or w 0 0)) s at t)))) tt

    past_end_name : (b : ℕ) (n : Named) (at : ℕ) → k < at → Behind s k place (end_name_at class s l b n at)
    unfolding end_name_at
    past_end_name b n at h =
        cond_both (eqb n.local b) _ _ (Behind s k place) (λ t. past_end_part (part s b n.end) at h) (λ t.
        past_then place place (length s) k _ (end_part_at class s l (part s b (n.local - 1)) at) (past_end_part (part s b (n.local - 1)) at h) (λ i p q.
        past_then place place (length s) k _ (one (is 58) s i) (past_one s k (is 58) i (omega arith)) (λ j p' q'. past_end_part (part s n.local n.end) j p')))

    pub past_end_tag : (b : ℕ) (n : Named) (at : ℕ) → k < at → Behind s k place (end_tag_at class s l b n at)
    unfolding end_tag_at
    past_end_tag b n at h =
        past_then place place (length s) k _ (end_name_at class s l b n at) (past_end_name b n at h)
        (λ i p q. past_one s k (is 62) (blanks class s i) (omega (arith, ends_from (is_space class) s i)))

    -- ---- elements

    module _ (child : ℕ → Reading Element) (grows : (at : ℕ) → k ≤ at → Behind s k (λ e. e.tag.end) (child at)) (start : Start) where
      past_content : (fuel at : ℕ) → k < at → Behind s k (λ c. c.end) (content_at class s l fuel child start at)
      unfolding content_at
      past_content zero at h = tt
      past_content (suc fuel) at h =
          every_then (Stops s k) (λ c. (k < c.end) × (c.end ≤ length s)) _ (free_at class s (length s) at) (free_stops class s k (length s) at (omega arith)) (λ stop p.
          cond_both (has (is 47) s (stop + 1)) _ _ (Behind s k (λ c. c.end))
          (λ t. past_then place (λ c. c.end) (length s) k _ (end_tag_at class s l start.begin start.name (stop + 2))
          (past_end_tag start.begin start.name (stop + 2) (omega (arith, p.0))) (λ e q q'. (q, q')))
          (λ t. past_then (λ e. e.tag.end) (λ c. c.end) (length s) k _ (child stop) (grows stop p.0) (λ e q q'.
          past_then (λ c. c.end) (λ c. c.end) (length s) k _ (content_at class s l fuel child start e.tag.end) (past_content fuel e.tag.end q)
          (λ c r r'. (r, r')))))

      past_rest : k < start.from → start.from ≤ length s → Behind s k (λ e. e.tag.end) (rest_at class s l child start)
      unfolding rest_at
      past_rest h l' =
          cond_both start.empty _ _ (Behind s k (λ e. e.tag.end)) (λ t. (h, l'))
          (λ t. past_then (λ c. c.end) (λ e. e.tag.end) (length s) k _ (content_at class s l (length s) child start start.from)
          (past_content (length s) start.from h) (λ c p q. (p, q)))

    past_element : (depth at : ℕ) → k ≤ at → Behind s k (λ e. e.tag.end) (element_at class s l depth at)
    unfolding element_at too_deep_at
    past_element zero at h =
        one_cases (Behind s k (λ e. e.tag.end)) (is 60) s at _ (λ t. one_cases (Behind s k (λ e. e.tag.end)) (is_start class) s (at + 1) _ (λ t'. tt) tt) tt
    past_element (suc depth) at h =
        past_then (λ st. st.from) (λ e. e.tag.end) (length s) k _ (start_at class s l at) (past_start at h)
        (λ start p q. past_rest (element_at class s l depth) (past_element depth) start p q)

-- an element that is read whole ends past its `<`, and within the message
pub element_on : (class : ℕ → ℕ) (s : List ℕ) (l : Limits) (depth at : ℕ) (e : Element) → element_at class s l depth at ≡ whole e
    → (at < e.tag.end) × (e.tag.end ≤ length s)
element_on class s l depth at e q = past_whole (λ x. x.tag.end) (length s) at q (past_element class s at l depth at (omega arith))
