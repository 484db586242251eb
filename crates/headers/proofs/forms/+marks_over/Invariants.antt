use Rattle.std.proofs.Common.{length}
use Rattle.headers.proofs.forms.+marks_over.Given as goal

abbrev pub decreases-marks_over : goal.decreases-marks_over
decreases-marks_over l = length l.rest.now
