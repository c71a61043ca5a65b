-- 'Order of messages', as four phases that a stream goes through.
-- Assumes nothing.
use Rattle.std.specs.Prelude.{Bool, true, false}
use Rattle.mrd_format.specs.declared.kind.Kind.{Kind}
use Rattle.mrd_format.specs.declared.kind.Kind.TheVariants.{ConfigurationName, ConfigurationText, HeaderText, Close, Text, Acquisition, Image, Waveform}
use Rattle.mrd_cursor.specs.declared.cursor.Phase.{Phase}
use Rattle.mrd_cursor.specs.declared.cursor.Phase.TheVariants.{Start, Configured, Headed, Closed}

-- no configuration, header, data or close yet
abbrev pub is_start : Phase → Bool
is_start Start = true
is_start Configured = false
is_start Headed = false
is_start Closed = false

-- no header, data or close yet
abbrev pub is_before_header : Phase → Bool
is_before_header Start = true
is_before_header Configured = true
is_before_header Headed = false
is_before_header Closed = false

-- a header, and no close yet
abbrev pub is_headed : Phase → Bool
is_headed Start = false
is_headed Configured = false
is_headed Headed = true
is_headed Closed = false

abbrev pub is_closed : Phase → Bool
is_closed Start = false
is_closed Configured = false
is_closed Headed = false
is_closed Closed = true

abbrev pub is_open : Phase → Bool
is_open Start = true
is_open Configured = true
is_open Headed = true
is_open Closed = false

-- 'at most one configuration (id 1 or 2), before the header and all data (1008, 1022, 1026); at most one header; data only after it. Text may
-- stand anywhere before the close. The close is last'
abbrev pub allowed : Kind → Phase → Bool
allowed ConfigurationName p = is_start p
allowed ConfigurationText p = is_start p
allowed HeaderText p = is_before_header p
allowed Close p = is_open p
allowed Text p = is_open p
allowed Acquisition p = is_headed p
allowed Image p = is_headed p
allowed (Waveform l) p = is_headed p

-- the phase after a message that was allowed
abbrev pub next_phase : Kind → Phase → Phase
next_phase ConfigurationName p = Configured
next_phase ConfigurationText p = Configured
next_phase HeaderText p = Headed
next_phase Close p = Closed
next_phase Text p = p
next_phase Acquisition p = p
next_phase Image p = p
next_phase (Waveform l) p = p
