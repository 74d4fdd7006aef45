-- Tables that become one, table by table, and one that is taken apart.
use Rattle.std.proofs.Common.{◌≡◌, ◌∙◌, ℕ, List, [], ◌∷◌, ◌++◌, map, refl, ap, arith, append_assoc}
use Rattle.std.specs.Prelude.{All}
use Rattle.std.proofs.lemmas.List.Elements.{All-append, All-tail, All-cons, All-nil}
use Rattle.rj_columns.specs.declared.cell.ColumnType.{ColumnType}
use Rattle.rj_columns.specs.Tables.{TableValue, rows_of_all, AreAlike, concatenated}
use Rattle.rj_columns.specs.Internal.Segments.{table_in}
use Rattle.rj_columns.proofs.SegmentFacts.{rows-more}

pub alike-joined : (whole part new : TableValue) (rest : List TableValue) → AreAlike (whole ∷ part ∷ rest) → new ≡ record whole { rows = whole.rows ++ part.rows } → AreAlike (new ∷ rest)
alike-joined whole part new rest a e = rw e (All-tail (λ (u : TableValue). (u.names ≡ whole.names) × (u.types ≡ whole.types)) part rest a)

pub same-joined : (whole part new : TableValue) (rest : List TableValue) → new ≡ record whole { rows = whole.rows ++ part.rows } → concatenated (new ∷ rest) ≡ concatenated (whole ∷ part ∷ rest)
same-joined whole part new rest e = rw e (ap (λ l. record { names = whole.names; types = whole.types; rows = l }) (append_assoc whole.rows part.rows (rows_of_all rest)))

-- the rows of tables of one segment each
rows-apart : (names : List (List ℕ)) (segments : List TableValue) → rows_of_all (map (table_in names []) segments) ≡ rows_of_all segments
rows-apart names [] = refl
rows-apart names (s ∷ segments) = ap (λ l. s.rows ++ l) (rows-apart names segments)

pub rows-parted : (names : List (List ℕ)) (closed : List TableValue) (last end : TableValue) (tables : List TableValue) → tables ≡ map (table_in names []) closed → end.rows ≡ last.rows
    → rows_of_all (tables ++ end ∷ []) ≡ rows_of_all closed ++ last.rows
rows-parted names closed last end tables e same = rw e (rows-more (map (table_in names []) closed) end ∙ (ap (λ l. l ++ end.rows) (rows-apart names closed) ∙ ap (λ l. rows_of_all closed ++ l) same))

same-apart : (names : List (List ℕ)) (types : List ColumnType) (closed : List TableValue) → All (λ s. s.types ≡ types) closed → All (λ t. (t.names ≡ names) × (t.types ≡ types)) (map (table_in names []) closed)
same-apart names types [] h = All-nil (λ (t : TableValue). (t.names ≡ names) × (t.types ≡ types))
same-apart names types (s ∷ closed) h =
    All-cons (λ (t : TableValue). (t.names ≡ names) × (t.types ≡ types)) (table_in names [] s) (map (table_in names []) closed) (refl, h 0 s (omega arith))
    (same-apart names types closed (All-tail (λ (t : TableValue). t.types ≡ types) s closed h))

pub same-parted : (names : List (List ℕ)) (types : List ColumnType) (closed tables : List TableValue) (end : TableValue) → All (λ s. s.types ≡ types) closed → tables ≡ map (table_in names []) closed
    → end.names ≡ names → end.types ≡ types → All (λ t. (t.names ≡ names) × (t.types ≡ types)) (tables ++ end ∷ [])
same-parted names types closed tables end h e named typed =
    rw e (All-append (λ (t : TableValue). (t.names ≡ names) × (t.types ≡ types)) (map (table_in names []) closed) (end ∷ []) (same-apart names types closed h)
    (All-cons (λ (t : TableValue). (t.names ≡ names) × (t.types ≡ types)) end [] (named, typed) (All-nil (λ (t : TableValue). (t.names ≡ names) × (t.types ≡ types)))))

-- one more table of one segment
pub made-more : (names : List (List ℕ)) (tables new all rest : List TableValue) (t s : TableValue) → new ≡ tables ++ t ∷ [] → t ≡ table_in names [] s → tables ++ map (table_in names []) (s ∷ rest) ≡ all
    → new ++ map (table_in names []) rest ≡ all
made-more names tables new all rest t s pushed e before = rw (pushed, e) (append_assoc tables (table_in names [] s ∷ []) (map (table_in names []) rest) ∙ before)
