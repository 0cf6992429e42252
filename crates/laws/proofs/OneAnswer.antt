-- No second answer fits: where a promise says that an answer is what a definition gives, any two answers that keep it are the same. Assumes nothing.
use mathlib.Core.Path.{◌≡◌, sym, ◌∙◌}

pub one_answer : {A : Type 0} {said r r' : A} → r ≡ said → r' ≡ said → r ≡ r'
one_answer keeps keeps' = keeps ∙ sym keeps'

-- the same where the promise is about what an answer says, and no two answers say the same
pub one_said : {A B : Type 0} (said : A → B) → ((r r' : A) → said r ≡ said r' → r ≡ r')
    → {d : B} {r r' : A} → said r ≡ d → said r' ≡ d → r ≡ r'
one_said said one-to-one {r = r} {r' = r'} keeps keeps' = one-to-one r r' (one_answer keeps keeps')
