use Rattle.std.proofs.Common.{◌≡◌, ◌∙◌, ◌<◌, ap, sym, map, take, length, true, false, Bool, Bor, List, ℕ, [], Some, String, Global}
use Rattle.std.specs.Prelude.{string_bytes, slice_index_or, if◌then◌else◌}
use Rattle.std.proofs.lemmas.List.{get_or-map, length-map, take-map}
use Rattle.std.proofs.lemmas.Result.{IfOk-weaker}
use Rattle.rj_settings.specs.declared.choice.Repeated.{Repeated}
use Rattle.rj_engine.specs.Naming.{free_name, is_among, next_name}
use Rattle.rj_engine.proofs.NamingFacts.{next_chosen}
use Rattle.rj_engine.proofs.naming.next_name.Goals as goal

-- the next name of a header by the texts that hold the names
chosen : (repeated : Repeated) (header : List (Bor (List ℕ))) (written : List (String Global)) (d : Bor (List ℕ)) (again : Bool) → length written < length header
    → again ≡ is_among (map (λ n. n.now) (take (length written) header)) (slice_index_or header (length written) d).now
    → next_name repeated (map (λ n. n.now) header) (map string_bytes written) (slice_index_or (map (λ n. n.now) header) (length written) [])
    ≡ (if again then free_name repeated (map (λ n. n.now) header) (map string_bytes written) (slice_index_or header (length written) d).now
    else Some (slice_index_or header (length written) d).now)
chosen repeated header written d again low test =
    let names = map (λ (n : Bor (List ℕ)). n.now) header in
    let texts = map string_bytes written in
    let name = (slice_index_or header (length written) d).now in
    let own : slice_index_or names (length written) [] ≡ name = get_or-map (λ (n : Bor (List ℕ)). n.now) header (length written) d [] low in
    let size : length texts ≡ length written = length-map written string_bytes in
    let front : take (length texts) names ≡ map (λ (n : Bor (List ℕ)). n.now) (take (length written) header) =
    ap (λ (k : ℕ). take k names) size ∙ take-map (λ (n : Bor (List ℕ)). n.now) (length written) header in
    ap (next_name repeated names texts) own ∙ next_chosen repeated names texts name again (ap (λ (ns : List (List ℕ)). is_among ns name) front ∙ sym test)

pub returns-then-is_among : goal.returns-then-is_among
returns-then-is_among c =
    IfOk-weaker c.free_name.result _ _ (λ o h. h ∙ sym (chosen c.args.repeated c.args.header.now c.args.written.now _ true c.requires (sym c.if-is_among.true ∙ c.is_among.ensures)))
    c.free_name.ensures

pub returns : goal.returns
returns c =
    ap Some c.in_ok-from_str.ensures.ok
    ∙ sym (chosen c.args.repeated c.args.header.now c.args.written.now _ false c.requires (sym c.if-is_among.false ∙ c.is_among.ensures))
