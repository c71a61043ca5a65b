pub mod AskStructs
