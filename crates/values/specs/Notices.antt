-- Notices as a kind: the same when letter and block agree, whatever the tick; F charges its block. Assumes nothing.
use Rattle.std.specs.Prelude.{ℕ, Bool, cond, ◌&&◌, Some, None, Option, ◌==◌}
use Rattle.values.specs.Letters.{letter_f}
use Rattle.values.specs.declared.notices.Notice.{Notice}

abbrev pub same_notice : Notice → Notice → Bool
same_notice a b = a.letter == b.letter && a.block == b.block

abbrev pub notice_charge : Notice → Option ℕ
notice_charge v = cond (v.letter == letter_f) (Some v.block) None
