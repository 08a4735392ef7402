-- The stages of a file.
use Rattle.std.proofs.Common.{◌≡◌, ◌⊎◌, inl, inr, ℕ, List, length, refl, sym, ap, subst, ◌∙◌}
use Rattle.std.specs.Prelude.{◌≢◌}
use Rattle.px_outside.specs.OnDisk.{Stays, TouchesOnly}
use Rattle.px_outside.specs.declared.disk.Disk.{Ghosts}
use Rattle.px_outside.proofs.Moments.{stays_touches, touches_more}
use Rattle.px_cells.specs.CellData.{CellData}
use Rattle.px_file.specs.Files.{HasWrittenBlocks}
use Rattle.px_file.specs.declared.fault.MakeFault.{MakeFault}
use Rattle.px_file.specs.declared.fault.MakeFault.TheVariants as make
use Rattle.px_file.specs.declared.region_file.RegionFile.{RegionFile}
use Rattle.px_file.specs.declared.writer.FileWriter.{FileWriter}
use Rattle.px_file.proofs.Kept.{kept_apart, kept_quiet}
use Rattle.px_making.specs.Making.{HasCells, IsFileMade, IsMaking, file_made}
use Rattle.px_making.specs.declared.making.Making.{Making}
use Rattle.px_gatelog.specs.declared.fault.AppendFault.{AppendFault}
use Rattle.px_gatelog.specs.declared.fault.AppendFault.TheVariants as append
use Rattle.px_gatelog.specs.declared.fault.StartFault.{StartFault}
use Rattle.px_gatelog.specs.declared.fault.StartFault.TheVariants as start
use Rattle.px_flushing.specs.Faults.{append_fault, make_fault, read_fault}
use Rattle.px_flushing.specs.Stage.{IsStage}
use Rattle.px_flushing.specs.declared.fault.FlushFault.TheVariants.{Damaged, ReadFault, WriteFault}
use Rattle.px_flushing.specs.declared.stage.Stage.{Stage}
use Rattle.px_flushing.specs.declared.stage.Stage.TheVariants as stage

-- ---- faults of a file that is made

pub make_write : (f : MakeFault) → make_fault f ≡ WriteFault → f ≡ make.WriteFault
make_write make.WriteFault e = refl
make_write make.Memory e = cc
make_write make.Full e = cc

pub make_read : (f : MakeFault) → make_fault f ≡ ReadFault → ⊥
make_read make.WriteFault e = cc
make_read make.Memory e = cc
make_read make.Full e = cc

pub make_damaged : (f : MakeFault) → make_fault f ≡ Damaged → ⊥
make_damaged make.WriteFault e = cc
make_damaged make.Memory e = cc
make_damaged make.Full e = cc

-- ---- faults of the log that is read

pub read_write : (f : StartFault) → read_fault f ≡ WriteFault → f ≡ start.WriteFault
read_write start.ReadFault e = cc
read_write start.WriteFault e = refl
read_write (start.Damaged file place) e = cc
read_write start.Memory e = cc

pub read_read : (f : StartFault) → read_fault f ≡ ReadFault → f ≡ start.ReadFault
read_read start.ReadFault e = refl
read_read start.WriteFault e = cc
read_read (start.Damaged file place) e = cc
read_read start.Memory e = cc

pub read_damaged : (f : StartFault) → read_fault f ≡ Damaged → ((file place : ℕ) → f ≡ start.Damaged file place → ⊥) → ⊥
read_damaged start.ReadFault e sound = cc
read_damaged start.WriteFault e sound = cc
read_damaged (start.Damaged file place) e sound = sound file place refl
read_damaged start.Memory e sound = cc

-- ---- faults of the manifest

pub append_write : (f : AppendFault) → append_fault f ≡ WriteFault → f ≡ append.WriteFault
append_write append.WriteFault e = refl
append_write append.Full e = cc

pub append_full : (f : AppendFault) → (f ≡ append.WriteFault → ⊥) → f ≡ append.Full
append_full append.WriteFault other = absurd (other refl)
append_full append.Full other = refl

pub append_other : (f : AppendFault) → (append_fault f ≡ ReadFault) ⊎ (append_fault f ≡ Damaged) → ⊥
append_other append.WriteFault (inl e) = cc
append_other append.WriteFault (inr e) = cc
append_other append.Full (inl e) = cc
append_other append.Full (inr e) = cc

-- ---- what a stage has

module _ {D : Type 0} (d : Ghosts D) (file : ℕ) (disk : D) (cells : List CellData) (s : Stage) where
  pub making_of : (m : Making) → s ≡ stage.Making m → IsStage d file disk cells s → (file_made m ≡ file) × IsMaking d m disk cells
  making_of m e is = subst (λ (x : Stage). IsStage d file disk cells x) e is

  pub written_of : (m : Making) → s ≡ stage.Written m → IsStage d file disk cells s → (file_made m ≡ file) × HasCells d m disk cells
  written_of m e is = subst (λ (x : Stage). IsStage d file disk cells x) e is

  pub made_of : (made : RegionFile) → s ≡ stage.Made made → IsStage d file disk cells s → (made.file ≡ file) × IsFileMade d made disk cells
  made_of made e is = subst (λ (x : Stage). IsStage d file disk cells x) e is

-- ---- calls on other files

module _ {D : Type 0} (d : Ghosts D) (old new : D) where
  written_kept : (writer : FileWriter) (blocks : List (List CellData)) → d.seen new writer.file ≡ d.seen old writer.file → HasWrittenBlocks d writer old blocks → HasWrittenBlocks d writer new blocks
  written_kept writer blocks same has = record { right = has.right; full = has.full; index = has.index; seen = λ tells. same ∙ has.seen tells }

  pub made_kept : (file : RegionFile) (cells : List CellData) → TouchesOnly d old new (λ touched. touched ≢ file.file) → IsFileMade d file old cells → IsFileMade d file new cells
  made_kept file cells touches made = record { blocks = made.blocks; has = kept_apart d old new file made.blocks touches made.has; all = made.all }

  -- calls that change nothing
  pub made_quiet : (file : RegionFile) (cells : List CellData) → Stays d old new → d.seen new ≡ d.seen old → IsFileMade d file old cells → IsFileMade d file new cells
  made_quiet file cells stays same made = record { blocks = made.blocks; has = kept_quiet d old new file made.blocks stays same made.has; all = made.all }

  pub quiet_touches : Stays d old new → d.seen new ≡ d.seen old → (touched : ℕ → Type 0) → TouchesOnly d old new touched
  quiet_touches stays same touched = touches_more d.calls d.left d.seen old new (λ file. ⊥) touched (λ file never. absurd never) (stays_touches d.calls d.left d.seen old new stays same)

  module _ (file : ℕ) (touched : ℕ → Type 0) (touches : TouchesOnly d old new touched) (apart : touched file → ⊥) where
    others : (f : ℕ) → f ≡ file → TouchesOnly d old new (λ t. t ≢ f)
    others f is = touches_more d.calls d.left d.seen old new touched (λ t. t ≢ f) (λ t own same. apart (subst touched (same ∙ is) own)) touches

    seen_same : (f : ℕ) → f ≡ file → d.seen new f ≡ d.seen old f
    seen_same f is = touches.sees f (λ own. apart (subst touched is own))

    -- a stage stays
    pub stage_kept : (cells : List CellData) (s : Stage) → IsStage d file old cells s → IsStage d file new cells s
    stage_kept cells stage.Frozen is = tt
    stage_kept cells (stage.Making making) is = (
      is.0,
      record {
        blocks = is.1.blocks;
        written = written_kept making.writer is.1.blocks (seen_same making.writer.file is.0) is.1.written;
        within = is.1.within;
        first = is.1.first;
        full = is.1.full;
      },
    )
    stage_kept cells (stage.Written making) is = (is.0, record { blocks = is.1.blocks; written = written_kept making.writer is.1.blocks (seen_same making.writer.file is.0) is.1.written; all = is.1.all })
    stage_kept cells (stage.Made made) is = (is.0, made_kept made cells (others made.file is.0) is.1)
    stage_kept cells (stage.Measured made len) is = (is.0, made_kept made cells (others made.file is.0) is.1, λ tells. is.2 tells ∙ sym (ap (λ (l : List ℕ). length l) (seen_same file refl)))
