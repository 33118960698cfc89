pub mod FormatTests
