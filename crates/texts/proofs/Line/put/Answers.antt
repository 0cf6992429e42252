-- A text is copied behind the line and a byte set behind it, where they have room (`Fields`).
use Rattle.std.proofs.Common.{◌∙◌, sym, ap, arith, ◌≡◌, ◌++◌, ◌∷◌, [], List, ℕ, length}
use Rattle.std.proofs.Math.Seq.{length-take-le}
use Rattle.std.proofs.Math.ListN.{length-append}
use Rattle.texts.specs.Fields.{field}
use Rattle.texts.proofs.Fields.{put_behind, put_room}
use Rattle.texts.proofs.Line.put.Goals as goal

pub returns : goal.returns
returns g c =
    let q = c.self.inside in
    let a = c.args in
    let size : length a.self.now ≡ q.length = sym (ap length c.self.view_is) ∙ length-take-le q.length q.bytes (omega arith) in
    put_behind q.bytes _ a.text.now q.length _ a.behind c.copy_from_slice.ensures.after (omega arith) (omega arith)
    ∙ ap (λ (l : List ℕ). l ++ field a.text.now a.behind) c.self.view_is
    ∙ sym (put_room g.row.N a.self.now (field a.text.now a.behind) (omega (arith, size, length-append a.text.now (a.behind ∷ []))))
