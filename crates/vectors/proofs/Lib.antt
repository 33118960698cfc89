-- `LineWalks` has the laws of lines in a text, and of what a transcript's walk leaves to do.
pub mod LineWalks
