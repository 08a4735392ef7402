-- The parts of keys that fit.
use Rattle.std.proofs.Common.{◌≡◌, suc, List, [], ◌∷◌, ◌⊎◌, length, inl, refl, ap}
use Rattle.std.specs.List.{All}
use Rattle.std.proofs.lemmas.List.Elements.{All-nil, All-cons}
use Rattle.px_values.specs.declared.row.Value.{Value}
use Rattle.px_keys.specs.Spelling.{Fits, IsNullFixed, PartFits, columns_of, values_of}
use Rattle.px_keys.specs.declared.parts.KeyColumn.{KeyColumn}
use Rattle.px_keys.specs.declared.parts.Part.{Part}

abbrev pub CanStand : Part → Type 0
CanStand part = PartFits part ⊎ IsNullFixed part

pub parts_stand : (parts : List Part) → Fits (columns_of parts) (values_of parts) → All CanStand parts
parts_stand [] h = All-nil CanStand
parts_stand (part ∷ parts) h = All-cons CanStand part parts (inl h.0) (parts_stand parts h.1)

-- there are as many values as columns
pub fits_length : (columns : List KeyColumn) (values : List Value) → Fits columns values → length values ≡ length columns
fits_length [] [] h = refl
fits_length [] (v ∷ values) h = absurd h
fits_length (c ∷ columns) [] h = absurd h
fits_length (c ∷ columns) (v ∷ values) h = ap suc (fits_length columns values h.1)
