-- Each folder of a table is opened.
use Rattle.std.proofs.Common.{◌≡◌, ◌<◌, ℕ, zero, suc, Bool, true, false, List, [], ◌∷◌, length, map, get_or, refl, sym, ◌∙◌, arith}
use Rattle.std.specs.Prelude.{filter, if◌then◌else◌}
use Rattle.std.proofs.lemmas.Bool.{false≢true}
use Rattle.px_outside.specs.Parts.{AreDistinct, HasNone}
use Rattle.px_groupworld.specs.Group.{GroupData, IndexPart, no_part}
use Rattle.px_tablefolder.specs.Folder.{IndexFiles, IsFilesOf, IsOpened, TableFiles, folder_high, no_files}
use Rattle.px_recovery.specs.Tables.{number_of_part}

abbrev active : IndexFiles → Bool
active y = y.is_active

abbrev pub opened_part : IndexFiles → IndexPart
opened_part y = record { id = y.id; cells = y.cells; birth = y.birth; horizon = y.horizon; is_built = y.is_active }

abbrev parts : List IndexFiles → List IndexPart
parts ys = map opened_part (filter active ys)

-- of each active index a part
abbrev pub opened_data : TableFiles → GroupData
opened_data n = record { high = folder_high n; low = n.horizon; cells = n.cells; indexes = map opened_part (filter active n.indexes); opens = [] }

abbrev part_if : Bool → IndexFiles → List IndexFiles → List IndexPart
part_if c y ys = map opened_part (if c then y ∷ filter active ys else filter active ys)

abbrev At : List IndexFiles → IndexPart → Type 0
At ys p = (i : ℕ) × ((i < length ys) × (((get_or ys i no_files).is_active ≡ true) × IsFilesOf p (get_or ys i no_files)))

files_self : (y : IndexFiles) → y.is_active ≡ true → IsFilesOf (opened_part y) y
files_self y a = record { id = refl; cells = refl; birth = refl; horizon = refl; built = a }

later : (y : IndexFiles) (ys : List IndexFiles) (p : IndexPart) → At ys p → At (y ∷ ys) p
later y ys p a = (suc a.0, ((let l = a.1.0 in omega arith), a.1.1))

each_by : (y : IndexFiles) (ys : List IndexFiles) → ((k : ℕ) → k < length (parts ys) → At ys (get_or (parts ys) k no_part)) → (c : Bool) → active y ≡ c → (k : ℕ) → k < length (part_if c y ys) → At (y ∷ ys) (get_or (part_if c y ys) k no_part)
each_by y ys rest true is zero l = (zero, (omega arith, (is, files_self y is)))
each_by y ys rest true is (suc k) l = later y ys (get_or (parts ys) k no_part) (rest k (omega arith))
each_by y ys rest false is k l = later y ys (get_or (parts ys) k no_part) (rest k l)

each_part : (ys : List IndexFiles) (j : ℕ) → j < length (parts ys) → At ys (get_or (parts ys) j no_part)
each_part [] j l = absurd (omega arith)
each_part (y ∷ ys) j l = each_by y ys (λ k less. each_part ys k less) (active y) refl j l

abbrev Has : List IndexPart → IndexFiles → Type 0
Has ps y = (j : ℕ) × ((j < length ps) × IsFilesOf (get_or ps j no_part) y)

all_by : (y : IndexFiles) (ys : List IndexFiles) → ((k : ℕ) → k < length ys → (get_or ys k no_files).is_active ≡ true → Has (parts ys) (get_or ys k no_files)) → (c : Bool) → active y ≡ c → (k : ℕ) → k < length (y ∷ ys) → (get_or (y ∷ ys) k no_files).is_active ≡ true
    → Has (part_if c y ys) (get_or (y ∷ ys) k no_files)
all_by y ys rest true is zero l a = (zero, (omega arith, files_self y is))
all_by y ys rest false is zero l a = absurd (false≢true (sym is ∙ a))
all_by y ys rest true is (suc k) l a = let h = rest k (omega arith) a in (suc h.0, ((let m = h.1.0 in omega arith), h.1.1))
all_by y ys rest false is (suc k) l a = rest k (omega arith) a

all_parts : (ys : List IndexFiles) (i : ℕ) → i < length ys → (get_or ys i no_files).is_active ≡ true → Has (parts ys) (get_or ys i no_files)
all_parts [] i l a = absurd (omega arith)
all_parts (y ∷ ys) i l a = all_by y ys (λ k less b. all_parts ys k less b) (active y) refl i l a

pub is_opened : (n : TableFiles) → IsOpened n (opened_data n)
is_opened n = record { high = refl; low = refl; opens = refl; cells = refl; each = λ j l. each_part n.indexes j l; all = λ i l a. all_parts n.indexes i l a }

-- no part twice where no index is

abbrev id_of : IndexFiles → ℕ
id_of y = y.id

none_if : (k : ℕ) (y : IndexFiles) (ys : List IndexFiles) (c : Bool) → (y.id ≡ k → ⊥) → HasNone number_of_part k (parts ys) → HasNone number_of_part k (part_if c y ys)
none_if k y ys true not rest = (not, rest)
none_if k y ys false not rest = rest

none_opened : (k : ℕ) (ys : List IndexFiles) → HasNone id_of k ys → HasNone number_of_part k (parts ys)
none_opened k [] none = tt
none_opened k (y ∷ ys) none = none_if k y ys (active y) none.0 (none_opened k ys none.1)

once_if : (y : IndexFiles) (ys : List IndexFiles) (c : Bool) → HasNone number_of_part y.id (parts ys) → AreDistinct number_of_part (parts ys) → AreDistinct number_of_part (part_if c y ys)
once_if y ys true none rest = (none, rest)
once_if y ys false none rest = rest

pub parts_once : (ys : List IndexFiles) → AreDistinct id_of ys → AreDistinct number_of_part (map opened_part (filter active ys))
parts_once [] once = tt
parts_once (y ∷ ys) once = once_if y ys (active y) (none_opened y.id ys once.0) (parts_once ys once.1)
