mod Tests
mod Lines
