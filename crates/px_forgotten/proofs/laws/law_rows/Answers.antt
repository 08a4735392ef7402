use Rattle.px_region.specs.Region.{read_of}
use Rattle.px_forgotten.proofs.Rows.{rows_built, rows_folder, rows_right, rows_shown, rows_tallied, rows_told, rows_traced}
use Rattle.px_forgotten.proofs.laws.law_rows.Goals as goal

pub returns : goal.returns
returns c = record {
  right = λ g r g' s. rows_right g g' s r;
  tallied = λ b es g hs k g' s. rows_tallied g g' s b es hs k;
  traced = λ es g t g' s. rows_traced g g' s es t;
  shown = rows_shown;
  told = λ b index es g hs right k v shown told g' s. rows_told b index es g hs right k v shown g' s told;
  built = λ b index es g hs right k v shown built g' s. rows_built b index es g hs right k v shown (read_of g'.rows) s.region.kept built;
  folder = rows_folder;
}
