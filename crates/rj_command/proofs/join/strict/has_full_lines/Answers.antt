use Rattle.rj_csv_io.specs.declared.strict.header.HeaderPlace.TheVariants.{Above}
use Rattle.rj_command.proofs.join.strict.has_full_lines.Goals as goal

pub returns-then-is_derived_in_parts : goal.returns-then-is_derived_in_parts
returns-then-is_derived_in_parts g c = λ _. rw c.without_bom-body.ensures at c.is_derived_in_parts.ensures c.if-is_derived_in_parts.true (Above 2)
