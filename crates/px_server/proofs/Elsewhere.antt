-- The trail goes on by an entry of one table, or by none.
use Rattle.std.proofs.Common.{◌≡◌, ◌≢◌, ℕ, Option, None, List, [], ◌∷◌, ◌++◌, refl, sym, ap, ◌∙◌}
use Rattle.px_values.specs.declared.name.TableId.{TableId}
use Rattle.px_trail.specs.declared.entry.Entry.{Entry}
use Rattle.px_trail.specs.Legal.{IsLegal, MayCome}
use Rattle.px_trail.specs.Trail.{Base, Catalogue, catalogue_of, catalogue_step, closing_call, closing_step}
use Rattle.px_trail.proofs.Growth.{catalogue-snoc, closing-snoc, legal-snoc}
use Rattle.px_groupworld.specs.Group.{GroupData}
use Rattle.px_noting.specs.Apart.{IsApartFrom}
use Rattle.px_noting.proofs.Others.{apart_elsewhere}
use Rattle.px_recovery.specs.Folder.{FolderData}
use Rattle.px_recovery.specs.Stands.{Explains, GoesOnBy}
use Rattle.px_recovery.proofs.Explains.{by_entry, by_none}
use Rattle.px_recovery.proofs.Numbered.{found_number}
use Rattle.px_server.proofs.Beside.{GoOthers, others_noted, others_still}
use Rattle.px_server.proofs.Built.{IsOfOwn}

-- An entry of the table of this number alone, which leaves what stands and doesn't close the server
pub record IsOfTable (b : Base) (es : List Entry) (t : ℕ) (e : Entry) : Type 0 where
  pub may : MayCome b es e
  pub still : (c : Catalogue) → catalogue_step c e.act ≡ c
  pub apart : (id : TableId) → id.0 ≢ t → IsApartFrom id e.act
  pub unshut : closing_step None e.act ≡ None
  pub own : IsOfOwn b es t e.act

-- The trail goes on by such an entry, or by none
pub record GoesOnIn (b : Base) (es es' : List Entry) (t : ℕ) : Type 0 where
  pub legal : IsLegal b es'
  pub catalogue : catalogue_of b es' ≡ catalogue_of b es
  pub closing : closing_call es ≡ None → closing_call es' ≡ None
  pub others : GoOthers b es es' t
  pub explains : (f : FolderData) (v : ℕ → GroupData) → Explains b es f v → GoesOnBy b es es' f v t

pub no_entry : (b : Base) (es : List Entry) → IsLegal b es → (t : ℕ) → GoesOnIn b es es t
no_entry b es legal t = record {
  legal = legal;
  catalogue = refl;
  closing = λ none. none;
  others = others_still b es t;
  explains = λ f v told. by_none b es f v told t;
}

pub one_entry : (b : Base) (es : List Entry) → IsLegal b es → (t : ℕ) (e : Entry) → IsOfTable b es t e → GoesOnIn b es (es ++ e ∷ []) t
one_entry b es legal t e of = (let
    same : catalogue_of b (es ++ e ∷ []) ≡ catalogue_of b es = catalogue-snoc b es e ∙ of.still (catalogue_of b es)
    in record {
      legal = legal-snoc b es e legal of.may;
      catalogue = same;
      closing = λ none. closing-snoc es e ∙ (ap (λ (o : Option ℕ). closing_step o e.act) none ∙ of.unshut);
      others = others_noted b es e of.may same t of.apart of.own;
      explains = λ f v told. by_entry b es f v told t e of.may same (λ q y other found. apart_elsewhere y.id e.act (of.apart y.id (λ at. other (sym (found_number f.standing.tables q y found) ∙ at))));
    })
