use Rattle.std.proofs.Common.{length}
use denote.Text.{Utf8}
use denote.Shadow.{shadow}
use Rattle.rj_settings.specs.Selected.{IsSelected}
use Rattle.rj_settings.proofs.Separated.{Only, Sound}
use Rattle.rj_settings.proofs.types.selected.read_entries.Given as goal

abbrev pub invariant-loop-entries : goal.invariant-loop-entries
invariant-loop-entries l = record { text : shadow (Utf8 l.left); sound : Sound IsSelected l.text l.entries.items l.left; only : Only IsSelected l.text l.left }

abbrev pub decreases-loop-entries : goal.decreases-loop-entries
decreases-loop-entries l = length l.left
