-- Texts that are read as csv reads them, in pieces.
use Rattle.std.proofs.Common.{◌≡◌, ◌∙◌, ℕ, List, [], ◌∷◌, ◌++◌, Option, Some, None, Bool, true, false, refl, sym, ap, arith, length, take, drop}
use Rattle.std.specs.Prelude.{IfSome}
use Rattle.std.proofs.lemmas.List.{append-nil, drop_all, take_all}
use Rattle.csv.specs.Machine.{next_record}
use Rattle.csv.specs.Reading.{records, records_from}
use Rattle.rj_csv_io.specs.Pieces.{piece_records}
use Rattle.rj_csv_io.specs.StrictReading.{config_of}
use Rattle.rj_shards.specs.Internal.Underway.{SplitsAs, behind_header}

-- no bytes have no records
pub records-none : (d : ℕ) → records (config_of d) [] ≡ []
unfolding records_from next_record
records-none d = refl

-- the last piece is all that is left
pub last-records : (d : ℕ) (bytes more : List ℕ) (end : ℕ) → end ≡ length bytes → more ≡ []
    → records (config_of d) (bytes ++ more) ≡ records (config_of d) (take end bytes) ++ records (config_of d) (drop end bytes ++ more)
last-records d bytes more end e none =
    let all : take end bytes ≡ bytes = take_all end bytes (omega (arith, e)) in
    let rest : drop end bytes ≡ [] = drop_all end bytes (omega (arith, e)) in
    rw (none, all, rest, append-nil, records-none d, append-nil) refl

pub piece-as : (d : ℕ) (is_first : Bool) (text : List ℕ) → piece_records d is_first text ≡ behind_header is_first (records (config_of d) text)
piece-as d true text = refl
piece-as d false text = refl

-- the records of a first piece and of the bytes behind it
pub piece-split : (d : ℕ) (is_first ahead : Bool) (bytes left : List ℕ) (end : ℕ)
    → records (config_of d) (bytes ++ left) ≡ records (config_of d) (take end bytes) ++ records (config_of d) (drop end bytes ++ left)
    → SplitsAs is_first (records (config_of d) (take end bytes)) ahead
    → piece_records d is_first (bytes ++ left) ≡ piece_records d is_first (take end bytes) ++ piece_records d ahead (drop end bytes ++ left)
piece-split d is_first ahead bytes left end cut header =
    let more = records (config_of d) (drop end bytes ++ left) in
    piece-as d is_first (bytes ++ left) ∙ (ap (behind_header is_first) cut ∙ (header more
    ∙ (λ i. sym (piece-as d is_first (take end bytes)) i ++ sym (piece-as d ahead (drop end bytes ++ left)) i)))

-- a division's record of whatever a device tells
pub if-some : (o : Option (List ℕ)) (P : List ℕ → Type 0) → ((x : List ℕ) → o ≡ Some x → P x) → IfSome o P
if-some None P h = tt
if-some (Some x) P h = h x refl

-- records behind others: all but the first one of both
pub header-prefix : (is_first : Bool) (a b : List (List (List ℕ))) → (tail : List (List (List ℕ))) × (behind_header is_first (a ++ b) ≡ behind_header is_first a ++ tail)
header-prefix true [] b = (drop 1 b, refl)
header-prefix true (x ∷ a) b = (b, refl)
header-prefix false a b = (b, refl)
