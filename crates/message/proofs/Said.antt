-- What a reading was, from what the code says of it and the case that this is. Assumes nothing.
use mathlib.Core.Path.{◌≡◌, sym, ◌∙◌, ap}
use Rattle.std.specs.Prelude.{Result, Err}
use Rattle.std.specs.Result.{IsErrAnd}
use Rattle.std.proofs.lemmas.Result.{err_from_is_err_and}
use Rattle.message.specs.Reading.{Reading, ◌>>=◌, said, reason_number}
use Rattle.message.specs.Reading.Reading.{refused}
use Rattle.message.specs.declared.Refusal.{Refusal}
use Rattle.message.proofs.Laws.{stopped}

module _ {A : Type 0} {a : Reading A} {r r' : Result A Refusal} where
  pub said_is : said r ≡ a → r ≡ r' → a ≡ said r'
  said_is says r-is = sym says ∙ ap said r-is

-- a refusal that the code hands on, whatever was to follow
pub handed : {A B : Type 0} (next : A → Reading B) {a : Reading A} {r : Result A Refusal} {e : Refusal}
    → said r ≡ a → r ≡ Err e → refused (reason_number e.reason) e.place ≡ (a >>= next)
handed next says r-is = stopped next (said_is says r-is)

-- the same where a `?` hands it on
pub exited : {A B : Type 0} (next : A → Reading B) (x : Result B Refusal) {a : Reading A} {r : Result A Refusal} {e : Refusal}
    → said r ≡ a → r ≡ Err e → IsErrAnd x (λ y. y ≡ e) → said x ≡ (a >>= next)
exited next x says r-is gives = let p = err_from_is_err_and x gives in rw (p.1, p.2) (handed next says r-is)
