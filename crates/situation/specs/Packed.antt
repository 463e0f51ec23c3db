-- A reader need not believe this file: which situation the words of the code are. Nothing about the block is defined here.
use Rattle.std.specs.Prelude.{ℕ, ◌+◌, ◌-◌, ◌*◌, Bool, ltb, if◌then◌else◌}
use Rattle.words.specs.Words.{flag}
use Rattle.sections.specs.Sections.{◌belongs_to◌, ◌with_section◌, ◌without_section◌}
use Rattle.rulebook.specs.Situation.{Station, Situation, ◌becomes◌, ◌annulled_by◌, ◌with_exit◌, with_entry, with_bilc, with_bslg, with_reminder, with_own_station, with_stations, with_pending, with_track, with_this_watch, with_link}
use Rattle.situation.specs.declared.Situation.{Situation as Packed}
use Rattle.situation.specs.declared.Station.{Station as PackedStation}
use Rattle.situation.specs.declared.flags.Flag.{Flag}
use Rattle.situation.specs.declared.flags.Flag.TheVariants.{Out, Inward, Afbli, Afble, Normal, Special, Entry, Bilc, Bslg, Reminder, Asks, OtherOut, OtherInward, OtherAsks, Link, Mark}

-- the flags that are set, by their bits
abbrev pub Flags : Type 0
Flags = ℕ → Bool

abbrev pub flags_of : ℕ → Flags
flags_of w j = j belongs_to w

-- a station has ten flags, from this bit on: own's from 0, the other's from 16
abbrev pub station_from : ℕ → Flags → Station
station_from bit f =
    record {
      orientation = record { out = f bit; inward = f (bit + 1) };
      annulment = record { afbli = f (bit + 2); afble = f (bit + 3) };
      exit = record { normal = f (bit + 4); special = f (bit + 5) };
      entry = f (bit + 6);
      bilc = f (bit + 7);
      bslg = f (bit + 8);
      reminder = f (bit + 9);
    }

-- a station by itself
unfoldable pub station : PackedStation → Station
station s = station_from 0 (flags_of s.flags)

-- a number of four bits, from this one on
abbrev pub count_from : ℕ → Flags → ℕ
count_from bit f = flag (f bit) + 2 * (flag (f (bit + 1)) + 2 * (flag (f (bit + 2)) + 2 * flag (f (bit + 3))))

-- the situation that has these flags: bits 10 and 26 say whose SOBB is pending, bit 32 that link is up, bit 33 that a mark is set, and the count
-- stands from bit 34 on
abbrev pub with_flags : Flags → Packed → Situation
with_flags f x =
    record {
      traffic =
          record {
            link = f 32;
            own = station_from 0 f;
            other = station_from 16 f;
            pending = record { own = f 10; other = f 26 };
            track = record { occupied = x.occupied; watch = record { mark = f 33; count = count_from 34 f } };
          };
      signals = record { held = record { towardsb = x.signals.heldb; towardsa = x.signals.helda } };
    }

abbrev pub unpacked : Packed → Situation
unpacked x = with_flags (flags_of x.flags) x

-- where a flag stands
abbrev pub bit_of : Flag → ℕ
bit_of Out = 0
bit_of Inward = 1
bit_of Afbli = 2
bit_of Afble = 3
bit_of Normal = 4
bit_of Special = 5
bit_of Entry = 6
bit_of Bilc = 7
bit_of Bslg = 8
bit_of Reminder = 9
bit_of Asks = 10
bit_of OtherOut = 16
bit_of OtherInward = 17
bit_of OtherAsks = 26
bit_of Link = 32
bit_of Mark = 33

-- the situation in which that flag says v
abbrev pub set : Flag → Bool → Situation → Situation
set Out v x = with_own_station (x.traffic.own becomes (record { out = v; inward = x.traffic.own.orientation.inward })) x
set Inward v x = with_own_station (x.traffic.own becomes (record { out = x.traffic.own.orientation.out; inward = v })) x
set Afbli v x = with_own_station (x.traffic.own annulled_by (record { afbli = v; afble = x.traffic.own.annulment.afble })) x
set Afble v x = with_own_station (x.traffic.own annulled_by (record { afbli = x.traffic.own.annulment.afbli; afble = v })) x
set Normal v x = with_own_station (x.traffic.own with_exit (record { normal = v; special = x.traffic.own.exit.special })) x
set Special v x = with_own_station (x.traffic.own with_exit (record { normal = x.traffic.own.exit.normal; special = v })) x
set Entry v x = with_own_station (with_entry v x.traffic.own) x
set Bilc v x = with_own_station (with_bilc v x.traffic.own) x
set Bslg v x = with_own_station (with_bslg v x.traffic.own) x
set Reminder v x = with_own_station (with_reminder v x.traffic.own) x
set Asks v x = with_pending (record { own = v; other = x.traffic.pending.other }) x
set OtherOut v x = with_stations x.traffic.own (x.traffic.other becomes (record { out = v; inward = x.traffic.other.orientation.inward })) x
set OtherInward v x = with_stations x.traffic.own (x.traffic.other becomes (record { out = x.traffic.other.orientation.out; inward = v })) x
set OtherAsks v x = with_pending (record { own = x.traffic.pending.own; other = v }) x
set Link v x = with_link v x
set Mark v x = with_track (with_this_watch (record { mark = v; count = x.traffic.track.watch.count }) x.traffic.track) x

-- a flag set or cleared
abbrev pub flagged : ℕ → ℕ → Bool → ℕ
flagged w k v = if v then w with_section k else w without_section k

-- own's flags and the other's exchanged
abbrev pub exchanged : ℕ → ℕ
exchanged j = if ltb j 16 then j + 16 else if ltb j 32 then j - 16 else j
