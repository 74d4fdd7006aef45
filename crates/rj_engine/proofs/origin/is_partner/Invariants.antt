use Rattle.std.proofs.Common.{◌≡◌, drop}
use Rattle.std.specs.List.{list_any}
use Rattle.rj_engine.specs.Origins.{is_column}
use Rattle.rj_engine.proofs.origin.is_partner.Given as goal

abbrev pub invariant-loop-partner : goal.invariant-loop-partner
invariant-loop-partner l = list_any (is_column l.right) l.partners ≡ list_any (is_column l.right) (drop l.partner-index l.partners)
