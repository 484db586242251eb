-- The words of campaign texts that a report is told in. Assumes nothing.
pub use Rattle.acts.specs.Acts.{act_reads, letter_byte}
pub use Rattle.cuts.specs.Cuts.{bind, there, cut_at, Lacks}
pub use Rattle.fields.specs.Values.{notice_reads, pulse_reads}
pub use Rattle.acts.specs.declared.Act.{Act}
pub use Rattle.acts.specs.declared.Act.TheVariants.{Begin, Inject, Turn, Close}
pub use Rattle.acts.specs.declared.Injection.{Injection}
pub use Rattle.fields.specs.declared.kinds.ValueKind.TheVariants.{Notices, Pulses}
pub use Rattle.text_faults.specs.Faults.{Faulted}
pub use Rattle.reader.specs.Lists.{value_reads, listed, last_taken, values_taken}
pub use Rattle.text_faults.specs.Faults.{line_of, text_layer, text_number}
pub use Rattle.headers.specs.Headers.{head_of}
pub use Rattle.reader.specs.Heads.{then, head_taken}
pub use Rattle.reader.specs.Lines.{line_in}
pub use Rattle.reader.specs.Reading.{fault_at, left, next, passed, ranged, skipped, start, taken as line_taken}
pub use Rattle.text_faults.specs.declared.errors.ReadError.{ReadError}
pub use Rattle.text_faults.specs.declared.errors.ReadError.TheVariants.{Fault}
pub use Rattle.text_faults.specs.declared.texts.TextFault.{TextFault}
pub use Rattle.text_faults.specs.declared.causes.TextCause.TheVariants.{Missing, Form, List as OfList}
pub use Rattle.headers.specs.declared.CarriageKind.TheVariants.{Echo, Seal}
pub use Rattle.headers.specs.declared.Header.{Header}
pub use Rattle.reader.specs.declared.Reader.{Reader}
