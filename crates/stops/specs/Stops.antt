-- The number of each stop.
use Rattle.std.specs.Prelude.{ℕ}
use Rattle.stops.specs.declared.Stop.{Stop}
use Rattle.stops.specs.declared.Stop.TheVariants.{TooLong, NoUnit, NothingOpen, LeftOpen, NoOperand, SignAfterSign, TooDeep, TooWide, LoadWhileOpen, NoRule, FrameOpen, NoFrame, OtherRenter, AllFed, BytesMissing, FrameTooLong, AllowanceTooSmall, NoCell, NoAllowance}

abbrev pub stop_number : Stop → ℕ
stop_number TooLong = 1
stop_number NoUnit = 2
stop_number NothingOpen = 3
stop_number LeftOpen = 4
stop_number NoOperand = 5
stop_number SignAfterSign = 6
stop_number TooDeep = 7
stop_number TooWide = 8
stop_number LoadWhileOpen = 9
stop_number NoRule = 10
stop_number FrameOpen = 11
stop_number NoFrame = 12
stop_number OtherRenter = 13
stop_number AllFed = 14
stop_number BytesMissing = 15
stop_number FrameTooLong = 16
stop_number AllowanceTooSmall = 17
stop_number NoCell = 18
stop_number NoAllowance = 19
