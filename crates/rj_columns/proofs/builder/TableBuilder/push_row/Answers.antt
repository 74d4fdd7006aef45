use Rattle.std.proofs.Common.{◌≡◌, ◌∙◌, map, refl, sym, subst, Result, Ok, Err}
use Rattle.std.specs.Prelude.{OnOk, OnErr}
use Rattle.rj_columns.specs.Contents.{content_of}
use Rattle.rj_columns.specs.Internal.Segments.{AreSegments}
use Rattle.rj_columns.specs.Tables.{BuilderValue}
use Rattle.rj_columns.proofs.SegmentFacts.{row-added}
use Rattle.rj_columns.proofs.builder.TableBuilder.push_row.Goals as goal

-- what holds where the row was added, and where it was refused
both : {A E : Type 0} (P : BuilderValue → Type 0) (r : Result A E) (new ok err : BuilderValue) → OnOk r (new ≡ ok) → OnErr r (new ≡ err) → P ok → P err → P new
both P (Ok x) new ok err e f p q = subst P (sym e) p
both P (Err x) new ok err e f p q = subst P (sym f) q

pub invariant_of-self : goal.invariant_of-self
invariant_of-self c =
    let same = c.self.view_is ∙ c.make_room.ensures in
    let fits = rw (← same) at c.requires.fits in
    let room = rw (← same) at c.requires.room in
    both (λ (b : BuilderValue). AreSegments c.self.inside.names c.self.inside.closed b.table) c.push_row.result c.push_row.new.self _ c.self.inside.current c.push_row.ensures.ok c.push_row.ensures.err
    (row-added c.self.inside.names c.self.inside.closed c.self.inside.current.table (map content_of c.args.cells.now) _ c.self.invariant fits room refl) c.self.invariant
