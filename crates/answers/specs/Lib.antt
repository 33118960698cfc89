pub mod AskingRows
