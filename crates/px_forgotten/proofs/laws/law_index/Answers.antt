use Rattle.px_region.specs.Region.{read_of}
use Rattle.px_forgotten.proofs.Indexes.{index_built, index_folder, index_right, index_shown, index_tallied, index_told, index_traced}
use Rattle.px_forgotten.proofs.laws.law_index.Goals as goal

pub returns : goal.returns
returns c = record {
  right = λ g r g' place x new s. index_right g g' place x new s r;
  tallied = λ b es g hs k g' place x new s. index_tallied g g' place x new s b es hs k;
  traced = λ es g t g' place x new s. index_traced g g' place x new s es t;
  shown = index_shown;
  told = λ b index es g hs right k v shown told g' place x new s. index_told b index es g hs right k v shown g' place x new s told;
  built = λ b index es g hs right k v shown built g' place x new s. index_built b index es g hs right k v shown place x s.is (read_of new) s.region.kept built;
  folder = index_folder;
}
