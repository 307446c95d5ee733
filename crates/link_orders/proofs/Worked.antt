-- The clock on worked values. Slot 1 begins 24,480,000 ticks after slot 0, which are 1,883,076.9 microseconds.
use Rattle.std.proofs.Common.{◌≡◌, ◌+◌, refl}
use Rattle.link_orders.specs.Clock.{begin_by, epoch, ticks_at, slot_at, slots_before}

-- a block of slot 0 whose first frame is the fourth says that the tape began 3 * 60,000 ticks before
fourth_frame : begin_by 1000000 0 3 ≡ 3208642393000
fourth_frame = refl

-- a block that comes 1,883,077 microseconds later, as the first of a hyperframe, in slot 1: it is a tick late
next_slot : begin_by 1883077000 1 2715648 ≡ 3208642560001
next_slot = refl

-- what comes a tick before slot 1 is in slot 0
last_tick : slot_at epoch (epoch + 24479999) ≡ 0
last_tick = refl

first_tick : slot_at epoch (epoch + 24480000) ≡ 1
first_tick = refl

-- and what comes a tick before the tape is a slot before it
a_tick_before : slots_before 3208642560001 epoch ≡ 1
a_tick_before = refl
