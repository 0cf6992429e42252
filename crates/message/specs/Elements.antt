-- Document 01, "The restricted XML": start tags with their attributes, end tags, elements in elements, and what stands around the root. The readers of
-- the other files are put together in the order in which the bytes come. Assumes nothing.
use Rattle.std.specs.Prelude.{ℕ, zero, suc, ◌+◌, ◌-◌, Bool, true, false, cond, ◌||◌, List, [], ◌∷◌, length, get_or, ltb, eqb}
use Rattle.std.proofs.Math.Seq.{slice}
use Rattle.laws.specs.Bytes.{same_bytes}
use Rattle.message.specs.Class.{is_start, is_space}
use Rattle.message.specs.Reading.{Reading, ◌>>=◌, is, byte_at, has, one, word_at, blanks, opened_at}
use Rattle.message.specs.Reading.Reading.{whole, refused}
use Rattle.message.specs.Names.{Named, short_at, name_at}
use Rattle.message.specs.Text.{text_at, value_at}
use Rattle.message.specs.Markup.{bang_at, around_at, declares, declaration_at}
use Rattle.message.specs.Limits.{Limits}
use Rattle.message.specs.Words.{char}

-- the bytes of s from one place up to another, which is not included
abbrev pub part : List ℕ → ℕ → ℕ → List ℕ
part s from to = slice from to s

-- ---- what has been read

-- an element's tags: its name stands from `begin`, behind the `<`, to `name.end`; its content from tag to tag, and at 0 and 0 of an empty-element tag
pub record Tag : Type 0 where
  pub begin : ℕ
  pub name : Named
  pub from : ℕ
  pub to : ℕ
  pub end : ℕ

-- elements that stand beside each other: the first with those inside it, and those after it
pub data Elements : Type 0 where
  none : Elements
  more : Tag → Elements → Elements → Elements

pub record Element : Type 0 where
  pub tag : Tag
  pub inside : Elements

-- a start tag: its name stands from `begin` on, the place behind its `>` is `from`, and it may be an empty-element tag
pub record Start : Type 0 where
  pub begin : ℕ
  pub name : Named
  pub from : ℕ
  pub empty : Bool

-- an element's content up to its end tag, and the place behind that
pub record Content : Type 0 where
  pub inside : Elements
  pub to : ℕ
  pub end : ℕ

-- content that its end tag ends at once, and content that begins with an element
abbrev pub closed : ℕ → ℕ → Content
closed to end = record { inside = none; to = to; end = end }

abbrev pub nested : Element → Content → Content
nested e c = record { inside = more e.tag e.inside c.inside; to = c.to; end = c.end }

-- an empty-element tag, and a start tag with its content
abbrev pub unfilled : Start → Element
unfilled start = record { tag = record { begin = start.begin; name = start.name; from = 0; to = 0; end = start.from }; inside = none }

abbrev pub filled : Start → Content → Element
filled start c = record { tag = record { begin = start.begin; name = start.name; from = start.from; to = c.to; end = c.end }; inside = c.inside }

-- ---- attributes

-- where an attribute's value stands, without its quotation marks
pub record Quoted : Type 0 where
  pub from : ℕ
  pub to : ℕ

abbrev pub is_known : List ℕ → List (List ℕ) → Bool
is_known name [] = false
is_known name (n ∷ names) = same_bytes name n || is_known name names

-- `/` or `>`
abbrev pub ends_tag : ℕ → Bool
ends_tag x = eqb x (char "/") || eqb x (char ">")

module _ (s : List ℕ) where
  -- the end of a start tag whose name stands from b on, behind its attributes: `>`, or `/>`
  unfoldable pub start_end_at : ℕ → Named → ℕ → Reading Start
  start_end_at b n at =
      let emptied : Reading Start = one (is (char ">")) s (at + 1) >>= (λ i. whole (record { begin = b; name = n; from = i; empty = true })) in
      let opened : Reading Start = one (is (char ">")) s at >>= (λ i. whole (record { begin = b; name = n; from = i; empty = false })) in
      cond (has (is (char "/")) s at) emptied opened

  -- nothing more stands at the place: a `<` there could only begin a comment, so the byte behind it is dead
  unfoldable pub end_at : ℕ → Reading ℕ
  end_at at = cond (has (is (char "<")) s at) (refused 9 (at + 1)) (cond (ltb at (length s)) (refused 9 at) (whole at))

module _ (class : ℕ → ℕ) (s : List ℕ) where
  -- after an attribute's name: `=` and its value
  unfoldable pub quoted_at : ℕ → Reading Quoted
  quoted_at at = do
    begin ← opened_at class s at
    stop ← value_at class (length s) (byte_at s (begin - 1)) s begin
    whole (record { from = begin; to = stop })

  -- text and comments up to the next tag
  unfoldable pub free_at : ℕ → ℕ → Reading ℕ
  free_at zero at = refused 9 at
  free_at (suc fuel) at = do
    stop ← text_at class (length s) s at
    let bang = bang_at class s stop >>= free_at fuel in
        cond (has (is (char "!")) s (stop + 1)) bang (cond (has (is (char "?")) s (stop + 1)) (refused 12 stop) (whole stop))

  -- an element below the last level is 10 at its `<`, once a byte that begins a name follows
  unfoldable pub too_deep_at : ℕ → Reading Element
  too_deep_at at = do
    b ← one (is (char "<")) s at
    i ← one (is_start class) s b
    refused 10 at

  -- the declaration, where there is one
  unfoldable pub declared_of : Reading ℕ
  declared_of = cond (declares class s) (declaration_at class s 5) (whole 0)

  module _ (l : Limits) where
    -- The name of one more attribute, which begins at p behind the white space from `at` on: at one place 9 goes first, then 11, then 14. A name that
    -- stands there already is dead at the byte behind it, up to which it could have become another.
    unfoldable pub fresh_at : List (List ℕ) → ℕ → ℕ → Reading ℕ
    fresh_at seen at p = do
      space ← one (is_space class) s at
      begin ← one (is_start class) s p
      room ← cond (ltb (length seen) l.attributes) (whole p) (refused 11 p)
      name ← name_at class l.part s p
      cond (is_known (part s p name.end) seen) (refused 9 name.end) (whole name.end)

    -- as many as stand there, up to the `/` or `>` behind them
    unfoldable pub attributes_at : ℕ → List (List ℕ) → ℕ → Reading ℕ
    attributes_at zero seen at = refused 9 at
    attributes_at (suc fuel) seen at =
        let p = blanks class s at in
        let another = fresh_at seen at p >>= (λ e. quoted_at e >>= (λ value. attributes_at fuel (part s p e ∷ seen) (value.to + 1))) in
        cond (has ends_tag s p) (whole p) another

    -- a start tag behind its name, and from its `<` on
    unfoldable pub with_name_at : ℕ → Named → Reading Start
    with_name_at b n = attributes_at (length s) [] n.end >>= start_end_at s b n

    unfoldable pub start_at : ℕ → Reading Start
    start_at at = do
      b ← one (is (char "<")) s at
      n ← name_at class l.part s b
      with_name_at b n

    -- ---- end tags

    -- A part of the end tag's name, which is the word w: at one place 9 goes before 14, and 14 before a 9 behind it.
    unfoldable pub end_part_at : List ℕ → ℕ → Reading ℕ
    end_part_at w at = do
      first ← one (is (get_or w 0 0)) s at
      short ← short_at class l.part s at
      word_at w s at

    -- the start tag's name again, which stands from b on
    unfoldable pub end_name_at : ℕ → Named → ℕ → Reading ℕ
    end_name_at b name at =
        let second = end_part_at (part s b (name.local - 1)) at >>= (λ i. one (is (char ":")) s i >>= end_part_at (part s name.local name.end)) in
        cond (eqb name.local b) (end_part_at (part s b name.end) at) second

    -- after `</`
    unfoldable pub end_tag_at : ℕ → Named → ℕ → Reading ℕ
    end_tag_at b name at = do
      i ← end_name_at b name at
      one (is (char ">")) s (blanks class s i)

    -- ---- elements

    -- text, comments and elements one level down, which `child` reads, up to and with the end tag
    unfoldable pub content_at : ℕ → (ℕ → Reading Element) → Start → ℕ → Reading Content
    content_at zero child start at = refused 9 at
    content_at (suc fuel) child start at = do
      stop ← free_at (length s) at
      let last : Reading Content = end_tag_at start.begin start.name (stop + 2) >>= (λ e. whole (closed stop e)) in
          let further : Reading Content = child stop >>= (λ e. content_at fuel child start e.tag.end >>= (λ c. whole (nested e c))) in
          cond (has (is (char "/")) s (stop + 1)) last further

    -- an element behind its start tag
    unfoldable pub rest_at : (ℕ → Reading Element) → Start → Reading Element
    rest_at child start =
        let read : Reading Element = content_at (length s) child start start.from >>= (λ c. whole (filled start c)) in
        cond start.empty (whole (unfilled start)) read

    -- an element, of at most as many levels as `depth` says
    unfoldable pub element_at : ℕ → ℕ → Reading Element
    element_at zero at = too_deep_at at
    element_at (suc depth) at = do
      start ← start_at at
      rest_at (element_at depth) start

    -- ---- the message: perhaps a declaration, one root, and white space and comments around it

    unfoldable pub root_at : ℕ → Reading Element
    root_at at = do
      begin ← around_at class (suc (length s)) s at
      root ← element_at l.levels begin
      last ← around_at class (suc (length s)) s root.tag.end
      end ← end_at s last
      whole root

    -- a message that is read from the place on, at the very start of which a declaration may stand: 8 comes before all else
    unfoldable pub document_at : ℕ → Reading Element
    document_at at =
        let document = cond (eqb at 0) declared_of (whole at) >>= root_at in
        cond (ltb l.bytes (length s)) (refused 8 0) document
