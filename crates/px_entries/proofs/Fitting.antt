-- Parts that fit their columns.
use Rattle.std.proofs.Common.{◌≡◌, Bool, true, false, List, [], ◌∷◌, sym, ◌∙◌, subst, ◌⊎◌, inl}
use Rattle.std.specs.List.{All, Contains}
use Rattle.std.proofs.lemmas.List.Elements.{All-cons, All-contains, All-nil, All-head, All-tail}
use Rattle.px_values.specs.declared.row.Value.{Value}
use Rattle.px_keys.specs.Spelling.{Fits, IsNullFixed, PartFits, columns_of, values_of}
use Rattle.px_keys.specs.declared.parts.KeyColumn.{KeyColumn}
use Rattle.px_keys.specs.declared.parts.Part.{Part}

-- the parts of these columns and values
same : (parts : List Part) (columns : List KeyColumn) (values : List Value) → columns_of parts ≡ columns → values_of parts ≡ values → Fits columns values → Fits (columns_of parts) (values_of parts)
same parts columns values c v h = subst (λ (cs : List KeyColumn). Fits cs (values_of parts)) (sym c) (subst (Fits columns) (sym v) h)

all-fit : (parts : List Part) → Fits (columns_of parts) (values_of parts) → All PartFits parts
all-fit [] h = All-nil PartFits
all-fit (p ∷ parts) h = All-cons PartFits p parts h.0 (all-fit parts h.1)

can-stand : (parts : List Part) → Fits (columns_of parts) (values_of parts) → All (λ part. PartFits part ⊎ IsNullFixed part) parts
can-stand [] h = All-nil (λ part. PartFits part ⊎ IsNullFixed part)
can-stand (p ∷ parts) h = All-cons (λ part. PartFits part ⊎ IsNullFixed part) p parts (inl h.0) (can-stand parts h.1)

-- parts that fit their columns can stand in a key
pub parts-fit : (parts : List Part) (columns : List KeyColumn) (values : List Value) → columns_of parts ≡ columns → values_of parts ≡ values → Fits columns values → All (λ part. PartFits part ⊎ IsNullFixed part) parts
parts-fit parts columns values c v h = can-stand parts (same parts columns values c v h)

-- none of them is a NULL where none may be
pub none-fixed : (parts : List Part) (columns : List KeyColumn) (values : List Value) → columns_of parts ≡ columns → values_of parts ≡ values → Fits columns values → ((part : Part) × Contains parts part × IsNullFixed part) → ⊥
none-fixed parts columns values c v h n =
    let fits : PartFits n.0 = All-contains PartFits parts n.0 (all-fit parts (same parts columns values c v h)) n.1 in
    let no : ◌≡◌ {A = Bool} true false = sym (fits.1 n.2.0) ∙ n.2.1 in
    cc

fits-of : (parts : List Part) → All PartFits parts → Fits (columns_of parts) (values_of parts)
fits-of [] h = tt
fits-of (p ∷ parts) h = (All-head PartFits p parts h, fits-of parts (All-tail PartFits p parts h))

-- the values fit their columns, where each part fits its own
pub values-fit : (parts : List Part) (columns : List KeyColumn) (values : List Value) → columns_of parts ≡ columns → values_of parts ≡ values → All PartFits parts → Fits columns values
values-fit parts columns values c v h = subst (λ (cs : List KeyColumn). Fits cs values) c (subst (Fits (columns_of parts)) v (fits-of parts h))
