pub mod AttendingLemmas
