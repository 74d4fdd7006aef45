use Rattle.std.proofs.Common.{◌≡◌, ◌<◌, ◌+◌, ◌++◌, ◌∷◌, [], ℕ, List, Some, map, take, length, get_or, sym, ap, ◌∙◌}
use Rattle.std.specs.Prelude.{slice_get}
use Rattle.std.proofs.lemmas.List.{take_more, map-append}
use Rattle.rj_columns.specs.Contents.{Content, FitsType, content_of}
use Rattle.rj_columns.specs.Tables.{cell_of}
use Rattle.rj_columns.proofs.RowFacts.{fits_kind, grown_typed}
use Rattle.rj_columns.proofs.table.Table.select_column.Goals as goal

pub push-requires : goal.push-requires
push-requires c = fits_kind c.args.self.now.types c.args.col _ c.loop-row.column.kind c.loop-row.invariant.0 c.cell.ensures.typed

-- one more cell of the rows
copied : (cell : ℕ → Content) (rows : List ℕ) (i : ℕ) (cells new : List Content) (x : Content) → i < length rows → cells ≡ map cell (take i rows) → new ≡ cells ++ x ∷ [] → x ≡ cell (get_or rows i 0)
    → new ≡ map cell (take (i + 1) rows)
copied cell rows i cells new x h before pushed at =
    rw (pushed, before, at, take_more rows i 0 h) (sym (map-append cell (take i rows) (get_or rows i 0 ∷ [])))

pub loop-row-preserved : goal.loop-row-preserved
loop-row-preserved c =
    let fits : FitsType c.loop-row.column.kind (content_of c.cell.result) = fits_kind c.args.self.now.types c.args.col _ c.loop-row.column.kind c.loop-row.invariant.0 c.cell.ensures.typed in
    let pushed = c.in_ok-push.ensures.ok in
    let kind : slice_get c.args.self.now.types c.args.col ≡ Some c.push.new.self.kind = rw pushed c.loop-row.invariant.0 in (
      kind,
      copied (λ r. cell_of c.args.self.now r c.args.col) c.args.rows.now c.loop-row.row-index c.loop-row.column.cells c.push.new.self.cells (content_of c.cell.result) c.loop-row-test.true
          c.loop-row.invariant.1 (ap (λ v. v.cells) pushed) (c.cell.ensures.content ∙ ap (λ r. cell_of c.args.self.now r c.args.col) c.from.ensures),
      grown_typed c.loop-row.column (content_of c.cell.result) c.push.new.self c.loop-row.invariant.2 fits pushed,
    )
