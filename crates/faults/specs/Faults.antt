-- The layer, the number and the words of each fault of values, value lists, groups and carriages. Assumes nothing.
use Rattle.std.specs.Prelude.{ℕ, List, codes}
use Rattle.faults.specs.declared.layers.Layer.{Layer}
use Rattle.faults.specs.declared.layers.Layer.TheVariants.{Text, Value, Group, List as ListLayer, Bench, Carriage}
use Rattle.faults.specs.declared.causes.ValueFault.{ValueFault}
use Rattle.faults.specs.declared.causes.ValueFault.TheVariants.{Block, Pulses, Count, Mark}
use Rattle.faults.specs.declared.causes.ListFault.{ListFault}
use Rattle.faults.specs.declared.causes.ListFault.TheVariants.{Length, Repeated}
use Rattle.faults.specs.declared.causes.GroupFault.{GroupFault}
use Rattle.faults.specs.declared.causes.GroupFault.TheVariants.{Size, Tolerance, Marks}
use Rattle.faults.specs.declared.causes.CarriageFault.{CarriageFault}
use Rattle.faults.specs.declared.causes.CarriageFault.TheVariants.{From, NotCorrect, Letter, Range, Seal, Offer, Turn}

abbrev pub layer_word : Layer → List ℕ
layer_word Text = codes "text"
layer_word Value = codes "value"
layer_word Group = codes "group"
layer_word ListLayer = codes "list"
layer_word Bench = codes "bench"
layer_word Carriage = codes "carriage"

abbrev pub value_layer : ValueFault → Layer
value_layer e = Value

-- every number out of its range is fault 3
abbrev pub value_number : ValueFault → ℕ
value_number Block = 3
value_number Pulses = 3
value_number Count = 3
value_number Mark = 3

abbrev pub value_words : ValueFault → List ℕ
value_words Block = codes "block above 63"
value_words Pulses = codes "pulses not 1 to 8"
value_words Count = codes "list count not 1 to 4"
value_words Mark = codes "mark above 15"

abbrev pub list_layer : ListFault → Layer
list_layer e = ListLayer

abbrev pub list_number : ListFault → ℕ
list_number Length = 7
list_number Repeated = 8

abbrev pub list_words : ListFault → List ℕ
list_words Length = codes "list length not 1 to 4, or not the carriage's"
list_words Repeated = codes "two values of the list are the same"

abbrev pub group_layer : GroupFault → Layer
group_layer e = Group

abbrev pub group_number : GroupFault → ℕ
group_number Size = 4
group_number Tolerance = 5
group_number Marks = 6

abbrev pub group_words : GroupFault → List ℕ
group_words Size = codes "n not 1 to 16"
group_words Tolerance = codes "n not above 3t"
group_words Marks = codes "mark not below n, or more than t marks"

abbrev pub carriage_layer : CarriageFault → Layer
carriage_layer e = Carriage

abbrev pub carriage_number : CarriageFault → ℕ
carriage_number From = 14
carriage_number NotCorrect = 15
carriage_number Letter = 16
carriage_number Range = 17
carriage_number Seal = 18
carriage_number Offer = 19
carriage_number Turn = 20

abbrev pub carriage_words : CarriageFault → List ℕ
carriage_words From = codes "frame not from a marked controller"
carriage_words NotCorrect = codes "controller not correct"
carriage_words Letter = codes "letter not of this carriage"
carriage_words Range = codes "triple out of range"
carriage_words Seal = codes "seal never offered"
carriage_words Offer = codes "offer by a marked controller or in a wrong phase"
carriage_words Turn = codes "turn after the last phase"
