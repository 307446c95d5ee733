mod CalendarLaws
mod Worked
