-- Records as they are made and changed. Assumes nothing.
use Rattle.std.specs.Prelude.{ℕ, Bool, true, false, List, Some, None, Option, codes}
use Rattle.dialogue.specs.declared.data.SubscriberData.{SubscriberData}
use Rattle.dialogue.specs.Data.{no_data}
use Rattle.restoration.specs.declared.record.Indicator.{Indicator}
use Rattle.restoration.specs.declared.record.Indicator.TheVariants.{NotConfirmed, Confirmed}
use Rattle.restoration.specs.declared.record.Place.{Place}
use Rattle.restoration.specs.declared.record.Record.{Record}

abbrev pub is_unconfirmed : Indicator → Bool
is_unconfirmed NotConfirmed = true
is_unconfirmed Confirmed = false

abbrev pub indicator_text : Indicator → List ℕ
indicator_text NotConfirmed = codes "N"
indicator_text Confirmed = codes "C"

abbrev pub nowhere : Place
nowhere = record { msc = None; area = None }

-- radio and data start as not confirmed
abbrev pub made : Indicator → Record
made location = record { radio = NotConfirmed; «data» = NotConfirmed; location = location; place = nowhere; subscriber = no_data }

abbrev pub or_made : Option Record → Record
or_made None = made NotConfirmed
or_made (Some v) = v

-- the record that a making leaves, where there was none
abbrev pub only_made : Option Record → Option Record
only_made None = Some (made NotConfirmed)
only_made (Some v) = None

-- in radio contact, at a place
abbrev pub contacted : Record → Place → Record
contacted v place = record v { radio = Confirmed; place = place }

abbrev pub relocated : Indicator → Record → Record
relocated location v = record v { location = location }

-- subscriber data confirmed, and no longer confirmed
abbrev pub supplied : SubscriberData → Record → Record
supplied subscriber v = record v { «data» = Confirmed; subscriber = subscriber }

abbrev pub doubted : Record → Record
doubted v = record v { «data» = NotConfirmed }
