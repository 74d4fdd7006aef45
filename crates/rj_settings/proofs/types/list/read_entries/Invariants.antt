use Rattle.std.proofs.Common.{length}
use denote.Text.{Utf8}
use denote.Shadow.{shadow}
use Rattle.rj_settings.specs.Lists.{IsEntry}
use Rattle.rj_settings.proofs.Separated.{Only, Sound}
use Rattle.rj_settings.proofs.types.list.read_entries.Given as goal

abbrev pub invariant-loop-entries : goal.invariant-loop-entries
invariant-loop-entries l = record { text : shadow (Utf8 l.left); sound : Sound IsEntry l.text l.entries.items l.left; only : Only IsEntry l.text l.left }

abbrev pub decreases-loop-entries : goal.decreases-loop-entries
decreases-loop-entries l = length l.left
