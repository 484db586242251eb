-- The call that an injection stands for. Assumes nothing.
use Rattle.std.proofs.Common.{◌≡◌, sym, ap, ◌∙◌}
use Rattle.carriage.specs.declared.frames.Frame.{Frame}
use Rattle.agreement.specs.Steps.{inject}
use Rattle.report.specs.Courses.{frame_of, call_of}
use Rattle.report.specs.Texts.{letter_byte, Injection, Act, Inject}

same_frame : (x : Injection) (f : Frame) → (f.from ≡ x.from) × (f.to ≡ x.to) × (f.letter ≡ letter_byte x.letter) × (f.triple ≡ x.triple) → f ≡ frame_of x
same_frame x f e = λ i. record { from = e.0 i; to = e.1 i; triple = e.3 i; letter = e.2 i }

pub injection_call : {K : Type 0} (a : Act K) (x : Injection) (f : Frame) → a ≡ Inject x → (f.from ≡ x.from) × (f.to ≡ x.to) × (f.letter ≡ letter_byte x.letter) × (f.triple ≡ x.triple) → inject f ≡ call_of a
injection_call a x f is e = ap inject (same_frame x f e) ∙ ap call_of (sym is)
