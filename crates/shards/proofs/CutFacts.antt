-- The places of a side's file, by the operand that a line has for it.
use Rattle.std.proofs.Common.{◌≡◌, ℕ, List, Option, None, Some, ap, drop, length, refl, subst}
use Rattle.std.specs.Prelude.{IfSome}
use Rattle.clap.specs.Words.{Text}
use Rattle.rj_line.specs.declared.fault.Fault.{Fault}
use Rattle.rj_line.specs.declared.request.Strictness.TheVariants.{Off}
use Rattle.shards.specs.Cuts.{IsCutText, side_file}
use Rattle.shards.specs.Heads.{HasHead, HasHeadFault}
use Rattle.shards.specs.Lines.{operand_of}
use Rattle.shards.specs.Ranges.{bytes_between}
use Rattle.shards.specs.declared.head.Head.{Head}
use Rattle.shards.specs.declared.line.Line.{Line}
use Rattle.shards.specs.declared.line.Operand.{Operand}
use Rattle.shards.proofs.StorageFacts.{told-if}

module _ (holds : Text → Option Text) (l : Line) (o : Operand) (own : o ≡ operand_of l l.side) where
  -- the text that is cut
  pub cut-text : (ranges end : ℕ) (h : Head) → HasHead Off o.delimiter (holds o.file.now) h → IfSome (holds o.file.now) (λ text. end ≡ length text)
      → IsCutText holds l ranges (record { side = l.side; delimiter = o.delimiter; ranges = ranges; begin = h.begin; end = end })
  cut-text ranges end h is size = record {
    side = refl;
    delimiter = ap (λ (p : Operand). p.delimiter) own;
    ranges_asked = refl;
    head = h;
    is_head = subst (λ (p : Operand). HasHead Off p.delimiter (holds p.file.now) h) own is;
    begin = refl;
    end = subst (λ (p : Operand). IfSome (holds p.file.now) (λ text. end ≡ length text)) own size;
  }

  -- what holds of the text that is cut holds of that in the file
  pub cut-told : (begin : ℕ) (tells : Option (List ℕ)) (P : List ℕ → Type 0) → IfSome (holds o.file.now) (λ text. tells ≡ Some (bytes_between begin None text)) → IfSome tells P
      → IfSome (side_file holds l) (λ text. P (drop begin text))
  cut-told begin tells P told is =
      told-if (side_file holds l) tells (drop begin) P
      (subst (λ (p : Operand). IfSome (holds p.file.now) (λ text. tells ≡ Some (bytes_between begin None text))) own told) is

  pub cut-fault : (f : Fault) → HasHeadFault Off o.delimiter l.side (holds o.file.now) f → HasHeadFault Off (operand_of l l.side).delimiter l.side (side_file holds l) f
  cut-fault f is = subst (λ (p : Operand). HasHeadFault Off p.delimiter l.side (holds p.file.now) f) own is
