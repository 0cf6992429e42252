-- Promise 6, meanings: the text of a value or of content tells what it means, and what it means tells its text. Assumes nothing.
use Rattle.std.specs.Prelude.{Some}
use Prim.Native.Nat.{ℕ, suc, ◌<◌}
use mathlib.Core.Path.{◌≡◌, refl, ◌∙◌, ap}
use mathlib.Core.Bool.{Bool, true, false, cond}
use mathlib.Core.List.{List}
use native.Mathlib.Omega.{arith}
use lib.ListN.{length}
use Rattle.laws.specs.Bytes.{same_bytes}
use Rattle.laws.proofs.Tails.{same_eq}
use Rattle.message.specs.Class.{class_of}
use Rattle.message.specs.Reading.{Reading}
use Rattle.message.specs.Reading.Reading.{whole, refused}
use Rattle.message.specs.Elements.{Elements}
use Rattle.message.specs.Elements.Elements.{none, more}
use Rattle.message.specs.Values.{attribute_meaning, content_meaning, means, decimal_of, number_of, status_of, advice_of}
use Rattle.message.specs.Words.{ok_status, redundant_status, unreadable_message}
use Rattle.message.specs.Messages.{type_advice}
use Rattle.message.specs.Meanings.{ValueSays, ContentSays, Decimal, NumbersMean, StatusesMean, TypesMean, UrisAre}
use Rattle.message.specs.declared.Status.TheVariants as statuses
use Rattle.message.specs.declared.Advice.TheVariants as advices
use Rattle.message.proofs.Letters.{value_said, value_given, content_said, content_given}
use Rattle.message.proofs.Decimals.{names_decimal, decimal_names}

-- ---- what a reading was, from what it means

-- the reading of a value, and of content, with the fuel that it has where it is called
abbrev value_of : List ℕ → ℕ → ℕ → Reading (List ℕ)
value_of s from to = attribute_meaning class_of s (suc (length s)) to from

abbrev content_of : List ℕ → ℕ → ℕ → Reading (List ℕ)
content_of s from to = content_meaning class_of s (suc (length s)) to from

value_whole : (s : List ℕ) (from to : ℕ) (text : List ℕ) → ValueSays s to from text → value_of s from to ≡ whole text
value_whole s from to text says = value_given s to says (suc (length s)) (omega arith) (omega arith)

content_whole : (s : List ℕ) (from to : ℕ) (text : List ℕ) → ContentSays s to from text → content_of s from to ≡ whole text
content_whole s from to text says = content_given s to says (suc (length s)) (omega arith) (omega arith)

number_was : (meaning : Reading (List ℕ)) (n : ℕ) → number_of meaning ≡ Some n
    → (text : List ℕ) × (meaning ≡ whole text) × (decimal_of text ≡ Some n)
number_was (whole text) n q = (text, refl, q)
number_was (refused number place) n q = cc

means_was : (word : List ℕ) (meaning : Reading (List ℕ)) → means word meaning ≡ true → meaning ≡ whole word
means_was word (whole text) q = ap whole (same_eq text word q)
means_was word (refused number place) q = cc

-- ---- numbers

pub numbers_mean : NumbersMean
numbers_mean s from to n = record { names = named_so; named = so_named }
  where
    named_so : number_of (value_of s from to) ≡ Some n → (text : List ℕ) × ValueSays s to from text × Decimal n text × (n < 4294967296)
    named_so q =
        let x = number_was (value_of s from to) n q in
        let decimal = names_decimal x.0 n x.2 in
        (x.0, value_said s to (suc (length s)) from x.0 x.1, decimal.0, decimal.1)

    so_named : (text : List ℕ) → ValueSays s to from text → Decimal n text → n < 4294967296 → number_of (value_of s from to) ≡ Some n
    so_named text says decimal fit = rw (value_whole s from to text says) (decimal_names decimal fit)

-- ---- statuses

status_was_ok : (meaning : Reading (List ℕ)) → status_of meaning ≡ statuses.Ok → meaning ≡ whole ok_status
status_was_ok meaning q = go (means ok_status meaning) refl (means redundant_status meaning) q
  where
    go : (t : Bool) → means ok_status meaning ≡ t → (u : Bool)
        → cond t statuses.Ok (cond u statuses.RedundantSession statuses.Other) ≡ statuses.Ok → meaning ≡ whole ok_status
    go true h u e = means_was ok_status meaning h
    go false h true e = cc
    go false h false e = cc

status_was_redundant : (meaning : Reading (List ℕ)) → status_of meaning ≡ statuses.RedundantSession → meaning ≡ whole redundant_status
status_was_redundant meaning q = go (means ok_status meaning) (means redundant_status meaning) refl q
  where
    go : (t u : Bool) → means redundant_status meaning ≡ u
        → cond t statuses.Ok (cond u statuses.RedundantSession statuses.Other) ≡ statuses.RedundantSession → meaning ≡ whole redundant_status
    go true u h e = cc
    go false true h e = means_was redundant_status meaning h
    go false false h e = cc

-- by computation, as the two URIs differ
ok_is : status_of (whole ok_status) ≡ statuses.Ok
unfolding same_bytes
ok_is = refl

redundant_is : status_of (whole redundant_status) ≡ statuses.RedundantSession
unfolding same_bytes
redundant_is = refl

pub statuses_mean : StatusesMean
statuses_mean s from to = record {
  ok = λ q. value_said s to (suc (length s)) from ok_status (status_was_ok (value_of s from to) q);
  is_ok = λ says. ap status_of (value_whole s from to ok_status says) ∙ ok_is;
  redundant = λ q. value_said s to (suc (length s)) from redundant_status (status_was_redundant (value_of s from to) q);
  is_redundant = λ says. ap status_of (value_whole s from to redundant_status says) ∙ redundant_is;
}

-- ---- types

advice_was : (meaning : Reading (List ℕ)) → advice_of meaning ≡ advices.UnreadableMessage → meaning ≡ whole unreadable_message
advice_was meaning q = go (means unreadable_message meaning) refl q
  where
    go : (t : Bool) → means unreadable_message meaning ≡ t
        → cond t advices.UnreadableMessage advices.Other ≡ advices.UnreadableMessage → meaning ≡ whole unreadable_message
    go true h e = means_was unreadable_message meaning h
    go false h e = cc

type_was : (s : List ℕ) (inside : Elements) (from to : ℕ) → type_advice class_of s inside from to ≡ advices.UnreadableMessage
    → (inside ≡ none) × ContentSays s to from unreadable_message
type_was s none from to q = (refl, content_said s to (suc (length s)) from unreadable_message (advice_was (content_of s from to) q))
type_was s (more t inner others) from to q = cc

unreadable_is : advice_of (whole unreadable_message) ≡ advices.UnreadableMessage
unfolding same_bytes
unreadable_is = refl

pub types_mean : TypesMean
types_mean s inside from to = record {
  unreadable = type_was s inside from to;
  is_unreadable = λ empty says.
      ap (λ (e : Elements). type_advice class_of s e from to) empty ∙ ap advice_of (content_whole s from to unreadable_message says)
      ∙ unreadable_is;
}

-- ---- the URIs as document 01 writes them

pub uris_are : UrisAre
uris_are = (refl, refl, refl)
