-- Laws of lists with blanks behind them, and of the tables and event lists that hold them: a table holds what it was made of, and a store
-- behind the list makes it one longer. Assumes nothing.
use mathlib.Core.Path.{◌≡◌, refl, sym, ap, subst⁻¹, ◌∙◌}
use mathlib.Core.List.{List, [], ◌∷◌, ◌++◌, map, append_assoc}
use Prim.Native.Nat.{ℕ, suc, ◌+◌, ◌-◌, ◌≤◌, ◌<◌}
use native.Mathlib.Omega.{arith}
use lib.ListN.{length, set, length-append, length-take, length-map}
use lib.Seq.{take-append_seam, set-append_seam}
use Rattle.conduct.specs.declared.Push.{Push}
use Rattle.conduct.specs.declared.Event.{Event}
use Rattle.session.specs.Rows.{padded, no_push, no_event, table_of, rows_of, Packed, events_of, list_of, Listed}
use Rattle.session.specs.Code.{EventsInFront}
use Rattle.session.specs.declared.Table.{Table}
use Rattle.session.specs.declared.Events.{Events}

-- ---- any list with blanks behind it

length_more : {A : Type 0} (xs : List A) (x : A) → length xs + 1 ≡ length (xs ++ x ∷ [])
length_more xs x = simp length-append

padded_more : {A : Type 0} (n : ℕ) (blank : A) (xs : List A) (x : A) → length xs < n
    → set (padded n blank xs) (length xs) x ≡ padded n blank (xs ++ x ∷ [])
padded_more n blank xs x room =
    let left : n - length xs ≡ suc (n - suc (length xs)) = omega arith in
    let less : n - length (xs ++ x ∷ []) ≡ n - suc (length xs) = omega (arith, length_more xs x) in
    rw (left, less, set-append_seam, append_assoc)

-- what is known of an array of structs, whose list stands under a `map` there
pub unmapped : {A B : Type 0} (f : A → B) (xs : List A) (n : ℕ) → length (map f xs) ≡ n → length xs ≡ n
unmapped f xs n e = sym (length-map xs f) ∙ e

-- ---- pushes

pub rows_of_lem : (ps : List Push) → rows_of (table_of ps) ≡ ps
unfolding rows_of table_of
rows_of_lem ps = take-append_seam ps _

pub packed_of : (ps : List Push) → length ps ≤ 32 → Packed (table_of ps)
unfolding table_of
packed_of ps room = record { fits = room; exact = ap table_of (sym (rows_of_lem ps)) }

pub packed_count : (t : Table) → Packed t → t.count ≡ length (rows_of t)
unfolding table_of
packed_count t h = ap (λ (u : Table). u.count) h.exact

-- of any table, and of one with room for its count
pub rows_few : (t : Table) → length (rows_of t) ≤ t.count
unfolding rows_of
rows_few t = simp length-take (omega arith)

pub rows_count : (t : Table) → length t.rows ≡ 32 → t.count ≤ 32 → length (rows_of t) ≡ t.count
unfolding rows_of
rows_count t size room = simp length-take (omega arith)

-- a store behind the rows of one that has room
module _ (t : Table) (p : Push) (h : Packed t) (room : length (rows_of t) < 32) where
  stored : ◌≡◌ {A = Table} (record { rows = set t.rows t.count p; count = t.count + 1 }) (table_of (rows_of t ++ p ∷ []))
  unfolding table_of
  stored =
      ap (λ (u : Table). record { rows = set u.rows u.count p; count = u.count + 1 }) h.exact
      ∙ (λ i. record { rows = padded_more 32 no_push (rows_of t) p room i; count = length_more (rows_of t) p i })

  pub row_stored : rows_of (record { rows = set t.rows t.count p; count = t.count + 1 }) ≡ rows_of t ++ p ∷ []
  row_stored = ap rows_of stored ∙ rows_of_lem _

  pub packed_stored : Packed (record { rows = set t.rows t.count p; count = t.count + 1 })
  packed_stored = subst⁻¹ Packed stored (packed_of _ (omega (arith, length_more (rows_of t) p)))

-- ---- events

pub events_in_front : EventsInFront
unfolding list_of
events_in_front e = refl

pub list_of_lem : (es : List Event) → list_of (events_of es) ≡ es
unfolding list_of events_of
list_of_lem es = take-append_seam es _

pub listed_of : (es : List Event) → length es ≤ 40 → Listed (events_of es)
unfolding events_of
listed_of es room = record { fits = room; exact = ap events_of (sym (list_of_lem es)) }

pub events_count : (e : Events) (es : List Event) → e ≡ events_of es → e.count ≡ length es
unfolding events_of
events_count e es same = ap (λ (u : Events). u.count) same

pub listed_count : (e : Events) → Listed e → e.count ≡ length (list_of e)
listed_count e h = events_count e (list_of e) h.exact

-- and behind the events
module _ (e : Events) (x : Event) (h : Listed e) (room : length (list_of e) < 40) where
  put : ◌≡◌ {A = Events} (record { list = set e.list e.count x; count = e.count + 1 }) (events_of (list_of e ++ x ∷ []))
  unfolding events_of
  put =
      ap (λ (u : Events). record { list = set u.list u.count x; count = u.count + 1 }) h.exact
      ∙ (λ i. record { list = padded_more 40 no_event (list_of e) x room i; count = length_more (list_of e) x i })

  pub event_stored : list_of (record { list = set e.list e.count x; count = e.count + 1 }) ≡ list_of e ++ x ∷ []
  event_stored = ap list_of put ∙ list_of_lem _

  pub listed_stored : Listed (record { list = set e.list e.count x; count = e.count + 1 })
  listed_stored = subst⁻¹ Listed put (listed_of _ (omega (arith, length_more (list_of e) x)))
