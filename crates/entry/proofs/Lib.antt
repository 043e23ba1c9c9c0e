mod Entries
mod Houses
mod Lines
mod Schedules
