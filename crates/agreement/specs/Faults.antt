-- The layer, the number and the words of each fault of a bench; a wrapped fault keeps its own. Assumes nothing.
use Rattle.std.specs.Prelude.{ℕ, List, codes}
use Rattle.faults.specs.Faults.{value_layer, value_number, value_words, list_layer, list_number, list_words}
use Rattle.faults.specs.declared.layers.Layer.{Layer}
use Rattle.faults.specs.declared.layers.Layer.TheVariants.{Bench}
use Rattle.faults.specs.Faults.{carriage_layer, carriage_number, carriage_words}
use Rattle.agreement.specs.declared.bench_faults.BenchFault.{BenchFault}
use Rattle.agreement.specs.declared.bench_faults.BenchFault.TheVariants.{Moment, Sender, MarkedSender, NotListed, Shots, Value, List as ListCause, Carriage}

abbrev pub bench_layer : BenchFault → Layer
bench_layer Moment = Bench
bench_layer Sender = Bench
bench_layer MarkedSender = Bench
bench_layer NotListed = Bench
bench_layer Shots = Bench
bench_layer (Value e) = value_layer e
bench_layer (ListCause e) = list_layer e
bench_layer (Carriage e) = carriage_layer e

abbrev pub bench_number : BenchFault → ℕ
bench_number Moment = 9
bench_number Sender = 10
bench_number MarkedSender = 11
bench_number NotListed = 12
bench_number Shots = 13
bench_number (Value e) = value_number e
bench_number (ListCause e) = list_number e
bench_number (Carriage e) = carriage_number e

abbrev pub bench_words : BenchFault → List ℕ
bench_words Moment = codes "act, phase or shot not of this moment"
bench_words Sender = codes "sender not a controller of the group"
bench_words MarkedSender = codes "marked sender given a value"
bench_words NotListed = codes "value not on the list"
bench_words Shots = codes "999 shots closed"
bench_words (Value e) = value_words e
bench_words (ListCause e) = list_words e
bench_words (Carriage e) = carriage_words e
