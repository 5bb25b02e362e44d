-- The size of an event is the length of its form. Assumes nothing.
use Rattle.std.proofs.Common.{◌≡◌, length, refl, arith, length-append}
use Rattle.key.proofs.Written.{length-figures}
use Rattle.event.specs.Layout as layout
use Rattle.event.specs.Layout.{form, size}

pub size_is : (e : layout.Event) → size e ≡ length (form e)
size_is (layout.provide_roaming_number imsi) = simp length-figures
size_is (layout.call_information imsi) = simp length-figures
size_is (layout.short_message_v2 imsi) = simp length-figures
size_is (layout.short_message_v1 imsi) = simp length-figures
size_is (layout.location_request imsi) = simp length-figures
size_is (layout.access imsi auth msc area) = simp (length-append, length-figures)
size_is (layout.outgoing imsi auth msc) = simp (length-append, length-figures)
size_is (layout.registration imsi auth msc area) = simp (length-append, length-figures)
size_is (layout.open_update imsi) = simp length-figures
size_is (layout.insert dialogue count groups) = simp (length-append, length-figures) (omega arith)
size_is (layout.end dialogue outcome) = simp (length-append, length-figures)
size_is (layout.reset digits value) = simp (length-append, length-figures)
size_is (layout.cancel imsi) = simp length-figures
size_is layout.restart = refl
