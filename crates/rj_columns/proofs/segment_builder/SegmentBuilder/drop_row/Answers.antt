use Rattle.std.proofs.Common.{refl}
use Rattle.rj_columns.proofs.RowFacts.{Filling-within, length-cut, cut-kinds, cut-fills, cut-typed, cut-rows}
use Rattle.rj_columns.proofs.segment_builder.SegmentBuilder.drop_row.Goals as goal

pub cut_back-requires : goal.cut_back-requires
cut_back-requires c = Filling-within c.self.inside.columns.items c.self.inside.filled c.self.inside.rows c.self.invariant.filling

pub invariant_of-self : goal.invariant_of-self
invariant_of-self c =
    let size = length-cut c.self.inside.rows c.self.inside.filled c.self.inside.columns.items in
    rw c.cut_back.ensures record {
      filling = cut-fills c.self.inside.columns.items c.self.inside.filled c.self.inside.rows c.self.invariant.filling;
      typed = cut-typed c.self.inside.rows c.self.inside.filled c.self.inside.columns.items c.self.invariant.typed;
      within = c.self.invariant.within;
    }

pub returns : goal.returns
returns c =
    let kinds = cut-kinds c.self.inside.rows c.self.inside.filled c.self.inside.columns.items in
    let rows = cut-rows c.self.inside.rows c.self.inside.filled c.self.inside.columns.items in
    rw (c.cut_back.ensures, kinds, rows, ← c.self.view_is) refl
