use Rattle.std.proofs.Common.{◌∙◌, ap, sym}
use Rattle.std.specs.Prelude.{string_bytes}
use Rattle.rj_csv_io.specs.Named as named
use Rattle.rj_csv_io.proofs.NamingFacts.{column-given, column-written}
use Rattle.rj_csv_io.proofs.names.naming.next_column.Goals as goal

pub returns-then-not-needs_name : goal.returns-then-not-needs_name
returns-then-not-needs_name c = column-written c.args.fields.now c.args.columns.now _ c.requires (sym c.if-not-needs_name.true ∙ c.needs_name.ensures)

pub returns : goal.returns
returns c =
    column-given c.args.fields.now c.args.columns.now _ c.requires (string_bytes c.in_ok-name.name) (sym c.if-not-needs_name.false ∙ c.needs_name.ensures)
    (c.in_ok-name.ensures ∙ ap (named.free_name _) (c.as_str.ensures.value ∙ c.in_ok-stem.ensures))
