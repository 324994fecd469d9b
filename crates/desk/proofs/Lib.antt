-- Laws: operations and desks, the published rule of a desk's record, begin and drop, requests, results, and hearing a reply. `Marks` is for the map of the
-- servers that answered, `Choices` for what phase 1 chooses, `Heeded` for what hearing a message comes to, `Margins` for what is told of the weight that has
-- answered, `ToldLemmas` for what answers tell, `Done` for what is accepted, `Hearings` for hear step by step.
pub mod Operations
pub mod Desks
pub mod Published
pub mod Begins
pub mod Asks
pub mod Results
pub mod Marks
pub mod Choices
pub mod Heeded
pub mod Margins
pub mod ToldLemmas
pub mod Hears
pub mod Done
pub mod Hearings
