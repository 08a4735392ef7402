use Rattle.std.proofs.Common.{length}
use Rattle.px_loading.proofs.loading.+load_files.Given as goal

abbrev pub decreases-load_files : goal.decreases-load_files
decreases-load_files g l = length l.files.now
