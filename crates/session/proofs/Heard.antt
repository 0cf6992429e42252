-- What bears on a push, by the bytes of a message: specs/Heard. Assumes nothing.
use Rattle.std.specs.Prelude.{Option, None, Some}
use mathlib.Core.Path.{◌≡◌, refl, sym, ap}
use mathlib.Core.Bool.{Bool, true, false, cond}
use mathlib.Core.List.{List, [], ◌∷◌}
use Prim.Native.Nat.{ℕ}
use native.Mathlib.Omega.{arith}
use borrow.Author.Tests.{eq-eqb, eqb-true}
use Rattle.std.proofs.lemmas.Bool.{and_parts}
use Rattle.message.specs.Class.{class_of}
use Rattle.message.specs.Limits.{link_limits}
use Rattle.message.specs.Reading.{Reading}
use Rattle.message.specs.Reading.Reading.{whole, refused}
use Rattle.message.specs.Messages.{message_of}
use Rattle.message.specs.declared.Kind.{Kind}
use Rattle.message.specs.declared.Kind.TheVariants as kinds
use Rattle.message.specs.declared.Value.{Value}
use Rattle.message.specs.declared.Message.{Message}
use Rattle.conduct.specs.History.{names_number, names, Bearing, advice_bearing, says_unreadable, message_bearing, call_bearing}
use Rattle.conduct.specs.History.Bearing.{acknowledged, unreadable_message, advised}
use Rattle.session.specs.Answers.{call_of}
use Rattle.session.specs.Heard.{HandedInAsRead, bearing_of, Naming, OkNaming, AdvisoryNaming, OkByItsBytes, UnreadableByItsBytes, AdvisedByItsBytes}

-- ---- what is handed in

pub handed_in_as_read : HandedInAsRead
handed_in_as_read bytes = (λ m e. ap call_of e, λ number place e. ap call_of e)

-- ---- what a value names

number_names : (n : ℕ) (x : Option ℕ) → names_number n x ≡ true → x ≡ Some n
number_names n None h = cc
number_names n (Some m) h = ap Some (eqb-true m n h)

names_number_lem : (n : ℕ) (value : Value (Option ℕ)) → value.there ≡ true → value.meaning ≡ Some n → names n value ≡ true
names_number_lem n value there is = rw (there, is, eq-eqb n n refl)

-- ---- what cannot be

none_bears : {b : Bearing} → [] ≡ b ∷ [] → ⊥
none_bears h = let z : ◌≡◌ {A = ℕ} 0 1 = cc in omega arith

no_ok : (t : Bool) → advice_bearing t ≡ acknowledged → ⊥
no_ok true e = let z : ◌≡◌ {A = ℕ} 0 1 = cc in omega arith
no_ok false e = let z : ◌≡◌ {A = ℕ} 0 1 = cc in omega arith

-- ---- a message that bears on the push is an Ok or an Advisory that names it

-- the bearing of an Advisory that names it
abbrev advisory_bearing : Message → Bearing
advisory_bearing m = advice_bearing (says_unreadable m)

module _ (bytes : List ℕ) (n : ℕ) where
  -- what it takes for bytes to bear so on the push n
  pub data Bears (b : Bearing) : Type 0 where
    an_ok : OkNaming bytes n → b ≡ acknowledged → Bears b
    an_advisory : (a : AdvisoryNaming bytes n) → b ≡ advisory_bearing a.message → Bears b

  naming : (kind : Kind) (value : Message → Value (Option ℕ)) (m : Message) → message_of class_of link_limits bytes ≡ whole m → m.kind ≡ kind
      → names n (value m) ≡ true → Naming bytes kind value n
  naming kind value m read is named =
      record {
        message = m;
        is_read = read;
        is_kind = is;
        is_there = (and_parts (value m).there (names_number n (value m).meaning) named).0;
        names_it = number_names n (value m).meaning (and_parts (value m).there (names_number n (value m).meaning) named).1;
      }

  kind_bears : (b : Bearing) (m : Message) → message_of class_of link_limits bytes ≡ whole m → (k : Kind) → m.kind ≡ k
      → message_bearing n m k ≡ b ∷ [] → Bears b
  unfolding naming
  kind_bears b m read kinds.SessionOpenRequest is h = absurd (none_bears h)
  kind_bears b m read kinds.SessionOpenResponse is h = absurd (none_bears h)
  kind_bears b m read kinds.SessionOk is h = absurd (none_bears h)
  kind_bears b m read kinds.Ok is h = go (names n m.in_response_to) refl h
    where
      go : (t : Bool) → names n m.in_response_to ≡ t → cond t (acknowledged ∷ []) [] ≡ b ∷ [] → Bears b
      go true e h = an_ok (naming kinds.Ok (λ x. x.in_response_to) m read is e) cc
      go false e h = absurd (none_bears h)
  kind_bears b m read kinds.Advisory is h = go (names n m.in_relation_to) refl h
    where
      go : (t : Bool) → names n m.in_relation_to ≡ t → cond t (advisory_bearing m ∷ []) [] ≡ b ∷ [] → Bears b
      go true e h = an_advisory (naming kinds.Advisory (λ x. x.in_relation_to) m read is e) cc
      go false e h = absurd (none_bears h)
  kind_bears b m read kinds.Request is h = absurd (none_bears h)
  kind_bears b m read kinds.Response is h = absurd (none_bears h)

  pub bears : (b : Bearing) → bearing_of n bytes ≡ b ∷ [] → Bears b
  bears b h = go (message_of class_of link_limits bytes) refl h
    where
      go : (r : Reading Message) → message_of class_of link_limits bytes ≡ r → call_bearing n (call_of r) ≡ b ∷ [] → Bears b
      go (whole m) read h = kind_bears b m read m.kind refl h
      go (refused number place) read h = absurd (none_bears h)

  -- ---- and the other way

  pub ok_bears : OkNaming bytes n → bearing_of n bytes ≡ acknowledged ∷ []
  ok_bears a =
      rw (a.is_read, a.is_kind, names_number_lem n a.message.in_response_to a.is_there a.names_it) refl

  pub advisory_bears : (a : AdvisoryNaming bytes n) → bearing_of n bytes ≡ advisory_bearing a.message ∷ []
  advisory_bears a =
      rw (a.is_read, a.is_kind, names_number_lem n a.message.in_relation_to a.is_there a.names_it) refl

-- ---- which Advisory

advice_unreadable : (t : Bool) → unreadable_message ≡ advice_bearing t → t ≡ true
advice_unreadable true e = refl
advice_unreadable false e = cc

advice_advised : (t : Bool) → advised ≡ advice_bearing t → t ≡ false
advice_advised true e = cc
advice_advised false e = refl

pub ok_by_its_bytes : OkByItsBytes
ok_by_its_bytes bytes n = (λ h. go (bears bytes n acknowledged h), ok_bears bytes n)
  where
    go : Bears bytes n acknowledged → OkNaming bytes n
    go (an_ok a e) = a
    go (an_advisory a e) = absurd (no_ok (says_unreadable a.message) (sym e))

pub unreadable_by_its_bytes : UnreadableByItsBytes
unreadable_by_its_bytes bytes n = (λ h. go (bears bytes n unreadable_message h), λ a says. rw says at (advisory_bears bytes n a))
  where
    go : Bears bytes n unreadable_message → (a : AdvisoryNaming bytes n) × (says_unreadable a.message ≡ true)
    go (an_ok a e) = absurd (no_ok true e)
    go (an_advisory a e) = (a, advice_unreadable (says_unreadable a.message) e)

pub advised_by_its_bytes : AdvisedByItsBytes
advised_by_its_bytes bytes n = (λ h. go (bears bytes n advised h), λ a says. rw says at (advisory_bears bytes n a))
  where
    go : Bears bytes n advised → (a : AdvisoryNaming bytes n) × (says_unreadable a.message ≡ false)
    go (an_ok a e) = absurd (no_ok false e)
    go (an_advisory a e) = (a, advice_advised (says_unreadable a.message) e)
