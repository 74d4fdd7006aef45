-- The rows of segments, one after another.
use Rattle.std.proofs.Common.{◌≡◌, ◌≤◌, ◌<◌, ◌+◌, ◌-◌, ◌^◌, ◌∙◌, ℕ, List, [], ◌∷◌, ◌++◌, length, take, refl, sym, ap, subst, arith, get_or, append_assoc}
use Rattle.std.specs.Prelude.{All}
use Rattle.std.proofs.lemmas.List.{length-append, append-nil, get_or-append-add}
use Rattle.std.proofs.lemmas.List.Concat.{flat_map-append, get_or-flat_map}
use Rattle.std.proofs.lemmas.List.Elements.{All-append, All-push, All-nil}
use Rattle.std.proofs.lemmas.List.Folds.{length-flat_map-take}
use Rattle.std.proofs.Math.ListN.{get_or-append}
use Rattle.rj_columns.specs.Contents.{Content, nothing}
use Rattle.rj_columns.specs.Tables.{TableValue, FitsTypes, rows_of_all, cell_of, with_row}
use Rattle.rj_columns.specs.Internal.Segments.{table_in, AreSegments, IsFound, IsPartOf}

pub rows-append : (a b : List TableValue) → rows_of_all (a ++ b) ≡ rows_of_all a ++ rows_of_all b
rows-append a b = flat_map-append (λ (t : TableValue). t.rows) a b

pub count-append : (a b : List TableValue) → length (rows_of_all (a ++ b)) ≡ length (rows_of_all a) + length (rows_of_all b)
count-append a b = ap length (rows-append a b) ∙ length-append (rows_of_all a) (rows_of_all b)

-- the rows of one more
pub rows-more : (a : List TableValue) (s : TableValue) → rows_of_all (a ++ s ∷ []) ≡ rows_of_all a ++ s.rows
rows-more a s = rows-append a (s ∷ []) ∙ ap (λ l. rows_of_all a ++ l) (append-nil s.rows)

pub count-more : (a : List TableValue) (s : TableValue) → length (rows_of_all (a ++ s ∷ [])) ≡ length (rows_of_all a) + length s.rows
count-more a s = ap length (rows-more a s) ∙ length-append (rows_of_all a) s.rows

-- one of the segments that are to be added has no more rows than all of them
pub next-fits : (now rest all more : List TableValue) (s : TableValue) (most : ℕ) → now ++ s ∷ rest ≡ all ++ more → length (rows_of_all all) + length (rows_of_all more) < most → length (rows_of_all now) + length s.rows < most
next-fits now rest all more s most e low =
    let one = count-append now (s ∷ rest) in
    let two = count-append all more in
    let three = length-append s.rows (rows_of_all rest) in
    let same : length (rows_of_all (now ++ s ∷ rest)) ≡ length (rows_of_all (all ++ more)) = ap (λ l. length (rows_of_all l)) e in
    let first : length (rows_of_all (s ∷ rest)) ≡ length s.rows + length (rows_of_all rest) = three in
    omega arith

-- a segment that was found is a part of the table
pub part-closed : (names : List (List ℕ)) (closed : List TableValue) (last s : TableValue) (row first : ℕ) → AreSegments names closed last → IsFound closed row first s → IsPartOf (table_in names closed last) first s
part-closed names closed last s row first a f =
    let within = length-flat_map-take (λ (t : TableValue). t.rows) closed f.place s f.inside in
    let own : length s.rows ≡ length (get_or closed f.place s).rows = ap (λ (t : TableValue). length t.rows) f.found in
    let all = length-append (rows_of_all closed) last.rows in
    record {
      types = ap (λ (t : TableValue). t.types) f.found ∙ a.alike f.place s f.inside;
      within = omega (arith, f.start);
      rows = λ k h. at k h;
    }
  where
    at : (k : ℕ) → k < length s.rows → get_or (rows_of_all closed ++ last.rows) (first + k) [] ≡ get_or s.rows k []
    at k h =
        let within = length-flat_map-take (λ (t : TableValue). t.rows) closed f.place s f.inside in
        let own : length s.rows ≡ length (get_or closed f.place s).rows = ap (λ (t : TableValue). length t.rows) f.found in
        let low : first + k < length (rows_of_all closed) = omega (arith, f.start) in
        let inside : k < length (get_or closed f.place s).rows = omega arith in
        get_or-append (rows_of_all closed) last.rows [] (first + k) low
        ∙ (ap (λ n. get_or (rows_of_all closed) (n + k) []) f.start
        ∙ (get_or-flat_map (λ (t : TableValue). t.rows) closed f.place k s [] f.inside inside ∙ ap (λ (t : TableValue). get_or t.rows k []) (sym f.found)))

-- a cell of a part
pub part-cell : (t part : TableValue) (first row col : ℕ) → IsPartOf t first part → first ≤ row → row < first + length part.rows → cell_of part (row - first) col ≡ cell_of t row col
part-cell t part first row col p low high =
    let back : first + (row - first) ≡ row = omega arith in
    ap (λ r. get_or r col nothing) (sym (p.rows (row - first) (omega arith)) ∙ ap (λ n. get_or t.rows n []) back)

-- the rows of two tables
rows-joined : (closed more : List TableValue) (last end : TableValue) → rows_of_all ((closed ++ last ∷ []) ++ more) ++ end.rows ≡ (rows_of_all closed ++ last.rows) ++ (rows_of_all more ++ end.rows)
rows-joined closed more last end =
    ap (λ l. l ++ end.rows) (rows-append (closed ++ last ∷ []) more ∙ ap (λ l. l ++ rows_of_all more) (rows-more closed last))
    ∙ append_assoc (rows_of_all closed ++ last.rows) (rows_of_all more) end.rows

pub joined-shown : (names : List (List ℕ)) (closed more now : List TableValue) (last end : TableValue) → end.types ≡ last.types → now ≡ (closed ++ last ∷ []) ++ more
    → table_in names now end ≡ record { names = names; types = last.types; rows = (rows_of_all closed ++ last.rows) ++ (rows_of_all more ++ end.rows) }
joined-shown names closed more now last end types e = rw (e, types, rows-joined closed more last end) refl

pub joined-fit : (names others : List (List ℕ)) (closed more now : List TableValue) (last end : TableValue) → AreSegments names closed last → AreSegments others more end → end.types ≡ last.types
    → length (rows_of_all closed ++ last.rows) + length (rows_of_all more ++ end.rows) < 2 ^ 31 → now ≡ (closed ++ last ∷ []) ++ more → AreSegments names now end
joined-fit names others closed more now last end a b types room e =
    let size = length-append (rows_of_all closed ++ last.rows) (rows_of_all more ++ end.rows) in
    let typed = All-append (FitsTypes end.types) (rows_of_all closed ++ last.rows) (rows_of_all more ++ end.rows) (subst (λ t. All (FitsTypes t) (rows_of_all closed ++ last.rows)) (sym types) a.typed) b.typed in
    let first = All-push (λ (s : TableValue). s.types ≡ end.types) closed last (λ i d h. a.alike i d h ∙ sym types) (sym types) in
    rw e record {
      few = rw types a.few;
      named = a.named ∙ ap length (sym types);
      lawful = a.lawful;
      alike = All-append (λ (s : TableValue). s.types ≡ end.types) (closed ++ last ∷ []) more first b.alike;
      typed = subst (All (FitsTypes end.types)) (sym (rows-joined closed more last end)) typed;
      within = rw (rows-joined closed more last end) (omega arith);
    }

-- one more row
pub row-added : (names : List (List ℕ)) (closed : List TableValue) (last : TableValue) (row : List Content) (new : TableValue) → AreSegments names closed last → FitsTypes last.types row
    → length (rows_of_all closed ++ last.rows) < 2 ^ 31 - 1 → new ≡ with_row last row → AreSegments names closed new
row-added names closed last row new a fits room e =
    let all = append_assoc (rows_of_all closed) last.rows (row ∷ []) in
    let size = length-append (rows_of_all closed ++ last.rows) (row ∷ []) in
    rw e record {
      few = a.few;
      named = a.named;
      lawful = a.lawful;
      alike = a.alike;
      typed = subst (All (FitsTypes last.types)) all (All-push (FitsTypes last.types) (rows_of_all closed ++ last.rows) row a.typed fits);
      within = rw (sym all) (omega arith);
    }

-- each of some segments makes a table of its own
pub each-alone : (names : List (List ℕ)) (closed : List TableValue) (last : TableValue) → AreSegments names closed last → All (AreSegments names []) closed
each-alone names closed last a = λ i d h.
    let types = a.alike i d h in
    let s = get_or closed i d in
    let size = length-append (rows_of_all closed) last.rows in
    let within = length-flat_map-take (λ (t : TableValue). t.rows) closed i d h in
    record {
      few = rw types a.few;
      named = a.named ∙ ap length (sym types);
      lawful = a.lawful;
      alike = All-nil (λ (s : TableValue). s.types ≡ (get_or closed i d).types);
      typed = rw types (λ k e low. typed-at i d h k e low);
      within = omega (arith, a.within);
    }
  where
    typed-at : (i : ℕ) (d : TableValue) → i < length closed → (k : ℕ) (e : List Content) → k < length (get_or closed i d).rows → FitsTypes last.types (get_or (get_or closed i d).rows k e)
    typed-at i d h k e low =
        let within = length-flat_map-take (λ (t : TableValue). t.rows) closed i d h in
        let place = length (rows_of_all (take i closed)) + k in
        let inside : length (rows_of_all (take i closed)) + k < length (rows_of_all closed) = omega arith in
        let size = length-append (rows_of_all closed) last.rows in
        let at = get_or-append (rows_of_all closed) last.rows e (length (rows_of_all (take i closed)) + k) inside ∙ get_or-flat_map (λ (t : TableValue). t.rows) closed i k d e h low in
        subst (FitsTypes last.types) at (a.typed (length (rows_of_all (take i closed)) + k) e (omega arith))

-- so does the last one
pub last-alone : (names : List (List ℕ)) (closed none : List TableValue) (last : TableValue) → AreSegments names closed last → none ≡ [] → AreSegments names none last
last-alone names closed none last a e =
    let size = length-append (rows_of_all closed) last.rows in
    rw e record {
      few = a.few;
      named = a.named;
      lawful = a.lawful;
      alike = All-nil (λ (s : TableValue). s.types ≡ last.types);
      typed = λ k d h. subst (FitsTypes last.types) (get_or-append-add (rows_of_all closed) last.rows k d) (a.typed (length (rows_of_all closed) + k) d (omega arith));
      within = omega (arith, a.within);
    }
