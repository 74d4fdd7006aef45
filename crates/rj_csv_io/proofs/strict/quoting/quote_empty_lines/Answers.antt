use Rattle.std.proofs.Common.{◌≡◌, ◌<◌, ◌∙◌, ◌++◌, ◌∷◌, [], ap, arith, length, get_or, subst, sym, List, ℕ}
use Rattle.std.specs.declared.alloc.Global.{Global}
use Rattle.std.specs.declared.vec.Vec.{Vec}
use Rattle.rj_csv_io.specs.Grammar.{Derives, file_text}
use Rattle.rj_csv_io.specs.StrictReading.{body_of, quoted}
use Rattle.rj_csv_io.specs.declared.strict.header.HeaderPlace.TheVariants.{First}
use Rattle.rj_csv_io.proofs.AboveFacts.{initial-near}
use Rattle.rj_csv_io.proofs.Lawful.{lawful-is}
use Rattle.rj_csv_io.proofs.QuotingFacts.{added, never, quotes-initial, quotes-end, quotes-more, wrote-byte, wrote-quotes}
use Rattle.rj_csv_io.proofs.StepFacts.{step-near}
use Rattle.rj_csv_io.proofs.strict.quoting.quote_empty_lines.Goals as goal
use Rattle.rj_csv_io.proofs.strict.quoting.quote_empty_lines.Goals.{then-begins_empty_line+in_ok-extend_from_slice-2, else-begins_empty_line}

pub loop-i-init : goal.loop-i-init
loop-i-init c =
    let near = initial-near First in
    let d = c.byte-separator.result in
    let same : c.args.delimiter ≡ d = sym c.byte-separator.ensures.value in
    let text = c.body-text.result.now in
    let empty : c.extend_from_slice.new.self.items ≡ 239 ∷ 187 ∷ 191 ∷ [] =
    c.in_ok-extend_from_slice.ensures.items ∙ ap (λ (x : List ℕ). x ++ (239 ∷ 187 ∷ 191 ∷ [])) c.in_ok-quoted.ensures.items in
    record {
      row = rw c.begin-standing.ensures near.0;
      column = rw c.begin-standing.ensures near.1;
      quotes = quotes-initial d (lawful-is d c.byte-separator.ensures.lawful) text c.begin-standing.result c.extend_from_slice.new.self.items
          (c.requires.0, c.requires.1, subst (λ (x : List ℕ). Derives d First c.requires.0 x c.requires.1) (sym c.body-text.ensures) (subst (λ (x : ℕ). Derives x First c.requires.0 (body_of First c.args.text.now) c.requires.1) same c.requires.2)) c.begin-standing.ensures empty;
    }

pub returns-in-Err : goal.returns-in-Err
returns-in-Err c =
    let within : c.loop-i.i < length c.body-text.result.now = omega arith in
    λ full file is. absurd (never c.byte-separator.result c.body-text.result.now c.loop-i.i c.loop-i.standing c.loop-i.quoted.items c.loop-i.invariant.quotes c.in-Err.field-0 within c.in-Err.ensures)

pub loop-i-preserved : goal.loop-i-preserved
loop-i-preserved c =
    let text = c.body-text.result.now in
    let out = c.loop-i.quoted.items in
    let byte = get_or text c.loop-i.i 0 in
    let within : c.loop-i.i < length text = omega arith in
    let near = step-near c.byte-separator.result c.loop-i.standing c.in-Ok.next byte c.in-Ok.ensures in
    let wrote : (rest : List ℕ) → c.push.new.self.items ++ rest ≡ out ++ added c.loop-i.standing.place byte rest =
    λ rest. elim c.if-begins_empty_line.branch [
      | then-begins_empty_line+in_ok-extend_from_slice-2 w ↦
          wrote-quotes c.loop-i.standing.place byte out c.if-begins_empty_line.quoted.items c.push.new.self.items rest c.begins_empty_line.result c.begins_empty_line.ensures w.if-begins_empty_line.true
          (ap (λ (v : Vec ℕ Global). v.items) w.quoted-is ∙ w.in_ok-extend_from_slice-2.ensures.items) c.in_ok-push.ensures.items
      | else-begins_empty_line w ↦
          wrote-byte c.loop-i.standing.place byte out c.if-begins_empty_line.quoted.items c.push.new.self.items rest c.begins_empty_line.result c.begins_empty_line.ensures w.if-begins_empty_line.false
          (ap (λ (v : Vec ℕ Global). v.items) w.quoted-is) c.in_ok-push.ensures.items
    ] in
    record {
      row = omega (arith, near.0, c.loop-i.invariant.row);
      column = omega (arith, near.1, c.loop-i.invariant.column);
      quotes = quotes-more c.byte-separator.result text c.loop-i.i c.loop-i.standing out c.loop-i.invariant.quotes c.in-Ok.next c.push.new.self.items within c.in-Ok.ensures wrote;
    }

pub returns : goal.returns
returns c =
    let d = c.byte-separator.result in
    let same : c.args.delimiter ≡ d = sym c.byte-separator.ensures.value in
    λ full file is. quotes-end d (lawful-is d c.byte-separator.ensures.lawful) c.body-text.result.now c.loop-i.i c.loop-i.standing c.loop-i.quoted.items c.loop-i.invariant.quotes (omega arith) full file
    (subst (λ (x : List ℕ). Derives d First full x file) (sym c.body-text.ensures) (subst (λ (x : ℕ). Derives x First full (body_of First c.args.text.now) file) same is))
    ∙ ap (λ (x : ℕ). file_text x (quoted file)) (sym same)
