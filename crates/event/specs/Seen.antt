-- An event of the program as the definitions know it: the borrowed bytes as a list. Assumes nothing.
use Rattle.std.specs.Prelude.{Ok, Err, Result}
use Rattle.key.specs.declared.refusal.Refusal.{Refusal}
use Rattle.event.specs.declared.events.Event.{Event}
use Rattle.event.specs.declared.events.Event.TheVariants.{ProvideRoamingNumber, CallInformation, ShortMessageV2, ShortMessageV1, LocationRequest, Access, Outgoing, Registration, OpenUpdate, Insert, End, Reset, Cancel, Restart}
use Rattle.event.specs.declared.decoding.Decoded.{Decoded}
use Rattle.event.specs.Layout as layout
use Rattle.event.specs.Decoding.{Reading}

abbrev pub as_event : Event → layout.Event
as_event (ProvideRoamingNumber imsi) = layout.provide_roaming_number imsi
as_event (CallInformation imsi) = layout.call_information imsi
as_event (ShortMessageV2 imsi) = layout.short_message_v2 imsi
as_event (ShortMessageV1 imsi) = layout.short_message_v1 imsi
as_event (LocationRequest imsi) = layout.location_request imsi
as_event (Access imsi auth msc area) = layout.access imsi auth msc area
as_event (Outgoing imsi auth msc) = layout.outgoing imsi auth msc
as_event (Registration imsi auth msc area) = layout.registration imsi auth msc area
as_event (OpenUpdate imsi) = layout.open_update imsi
as_event (Insert dialogue count groups) = layout.insert dialogue count groups.now
as_event (End dialogue outcome) = layout.end dialogue outcome
as_event (Reset digits value) = layout.reset digits value
as_event (Cancel imsi) = layout.cancel imsi
as_event Restart = layout.restart

-- what decoding answered
abbrev pub reading : Result Decoded Refusal → Reading
reading (Ok d) = Ok (as_event d.event, d.length)
reading (Err e) = Err e
