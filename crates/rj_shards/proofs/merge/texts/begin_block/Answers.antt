use Rattle.std.proofs.Common.{◌∙◌, [], ap, sym}
use Rattle.csv.specs.Records.{fields_of}
use Rattle.rj_shards.specs.MergeTexts.{others}
use Rattle.rj_shards.proofs.WrittenFacts.{begun-first, begun-later}
use Rattle.rj_shards.proofs.merge.texts.begin_block.Goals as goal

pub returns-then-is_some : goal.returns-then-is_some
returns-then-is_some c =
    begun-later c.args.how.now.delimiter c.args.how.now.from (others c.args.header.columns (fields_of c.args.header.names)) c.empty_block-block.result (sym c.is_some.ensures ∙ c.if-is_some.true) c.empty_block-block.ensures

pub returns : goal.returns
returns c =
    let header = c.args.header in
    let names = c.without_place-names.ensures ∙ ap (λ w. others w.columns (fields_of w.fields)) c.in-Ok.ensures.ok in
    begun-first c.args.how.now.delimiter c.args.how.now.from (others header.columns (fields_of header.names)) c.without_place-names.result c.write.new.writer (sym c.is_some.ensures ∙ c.if-is_some.false) names
    (c.in_ok-write.ensures c.args.how.now.delimiter [] c.empty_block-block.ensures)
