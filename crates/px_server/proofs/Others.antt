-- Files of no part stay as they were, from call to call.
use Rattle.std.proofs.Common.{◌≡◌, ◌<◌, ◌≤◌, ◌⊎◌, inl, inr, ℕ, List, [], ◌++◌, sym, subst, ◌∙◌, arith, append-nil, append_assoc}
use Rattle.std.proofs.lemmas.Bool.{cases_lt}
use Rattle.px_outside.specs.OnDisk.{TouchesOnly}
use Rattle.px_outside.specs.declared.disk.Disk.{Ghosts}
use Rattle.px_trail.specs.Trail.{Base, catalogue_of}
use Rattle.px_trail.specs.declared.entry.Entry.{Entry}
use Rattle.px_wal.specs.Files.{HasFile}
use Rattle.px_server.specs.Others.{Beginning, BeginsAt, IsRegion, OthersStay, part_files}

-- a region that stands now
pub own_file : (b : Base) (es : List Entry) (n : ℕ) → IsRegion (catalogue_of b es) n → (file : ℕ) → HasFile n file → part_files b es file
own_file b es n stands file own = inr (record {
  region = n;
  was = record { before = es; after = []; splits = sym (append-nil es); was = stands };
  own = own;
})

-- more files are of a part behind more entries
more_files : (b : Base) (es more : List Entry) (file : ℕ) → part_files b es file → part_files b (es ++ more) file
more_files b es more file (inl is) = inl is
more_files b es more file (inr is) = inr (record {
  region = is.region;
  was = record { before = is.was.before; after = is.was.after ++ more; splits = splits (is.was.before) (is.was.after) is.was.splits; was = is.was.was };
  own = is.own;
})
  where
    splits : (before after : List Entry) → es ≡ before ++ after → es ++ more ≡ before ++ (after ++ more)
    splits before after same = subst (λ (l : List Entry). l ++ more ≡ before ++ (after ++ more)) (sym same) (append_assoc before after more)

module _ {D : Type 0} (d : Ghosts D) (b : Base) (began : Beginning) where
  -- at the beginning
  pub others_first : ((x : D) (moment file : ℕ) (bytes : List ℕ) → d.left x moment file bytes → moment ≤ d.calls x) → (disk : D) → BeginsAt d began disk → OthersStay d b began disk []
  others_first up_to_now disk k = record {
    later = omega (arith, k.moment);
    left = λ moment file bytes since other is.
        let up = up_to_now disk moment file bytes is in
        let now : moment ≡ d.calls disk = omega (arith, k.moment, since, up) in
        k.left file bytes (subst (λ (m : ℕ). d.left disk m file bytes) now is);
    seen = λ file other. k.seen file;
  }

  -- calls on files of parts
  pub others_on : (es : List Entry) (old new : D) (touched : ℕ → Type 0) → ((file : ℕ) → touched file → part_files b es file) → TouchesOnly d old new touched → OthersStay d b began old es → OthersStay d b began new es
  others_on es old new touched parts touches k = record {
    later = omega (arith, k.later, touches.later);
    left = λ moment file bytes since other is. left moment file bytes since other is (cases_lt moment (d.calls old));
    seen = λ file other. touches.sees file (λ own. other (parts file own)) ∙ k.seen file other;
  }
    where
      left : (moment file : ℕ) (bytes : List ℕ) → began.moment ≤ moment → (part_files b es file → ⊥) → d.left new moment file bytes → (moment < d.calls old) ⊎ (d.calls old ≤ moment) → began.left file bytes
      left moment file bytes since other is (inl before) = k.left moment file bytes since other (touches.past moment file bytes before is)
      left moment file bytes since other is (inr after) = k.left (d.calls old) file bytes k.later other (touches.others moment file bytes after (λ own. other (parts file own)) is)

  -- entries more
  pub others_more : (es more : List Entry) (disk : D) → OthersStay d b began disk es → OthersStay d b began disk (es ++ more)
  others_more es more disk k = record {
    later = k.later;
    left = λ moment file bytes since other is. k.left moment file bytes since (λ own. other (more_files b es more file own)) is;
    seen = λ file other. k.seen file (λ own. other (more_files b es more file own));
  }
