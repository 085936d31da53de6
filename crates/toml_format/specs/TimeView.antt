-- A date, a time of day and an offset as the text shows them.
use Rattle.jiff_core.specs.declared.civil.date.Date.{Date}
use Rattle.jiff_core.specs.declared.civil.time.Time.{Time}
use Rattle.asn1_core.specs.Moment.{Moment as OffsetMoment}
use Rattle.toml_format.specs.TimeText.{CalendarDate, ClockTime, TimestampView}

abbrev pub date_view : Date → CalendarDate
date_view d = record { year = d.year; month = d.month; day = d.day }

abbrev pub time_view : Time → ClockTime
time_view t = record { hour = t.hour; minute = t.minute; second = t.second; nanosecond = t.subsec_nanosecond }

abbrev pub timestamp_view : OffsetMoment → TimestampView
timestamp_view m = record { date = date_view m.local.date; time = time_view m.local.time; offset = m.offset_seconds }
