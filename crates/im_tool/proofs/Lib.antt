mod RisingLoads
