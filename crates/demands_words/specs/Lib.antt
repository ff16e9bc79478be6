-- The words of the demands: what their statements speak of, and the services.
pub mod Words
pub mod Services
