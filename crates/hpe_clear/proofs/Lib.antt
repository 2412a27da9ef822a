pub mod SeenSlots
pub mod SeenMarkers
pub mod SeenSymbols
pub mod SeenWords
pub mod FirstRound
pub mod ClearDecoded
